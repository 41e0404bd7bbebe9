-- Laws of the set by a table: the positions whose rows are inside a set. Assumes nothing.
use Prim.Native.Nat.{ℕ, ◌+◌, ◌<◌}
use mathlib.Core.Path.{◌≡◌, sym, ap, ◌∙◌}
use mathlib.Core.Bool.{Bool, not, ◌||◌, cond}
use mathlib.Core.List.{List}
use native.Mathlib.Omega.{arith}
use Rattle.positions.specs.Below.{every}
use Rattle.positions.specs.Sets.{set_words, room, has, collect, set_of, no_members, is_subset}
use Rattle.positions.proofs.SetLaws.{collect-words, collect-more}
use Rattle.positions.proofs.MemberLaws.{insert-at}
use Rattle.positions.proofs.SetCodeLaws.{zero-words}
use Rattle.record.specs.Record.{most_features}
use Rattle.tables.specs.Tables.{row_at, in_row, rows_inside}
use Rattle.tables.specs.Parts.{added_in}

module _ (table permitted : List ℕ) where
  pub inside-none : set_of no_members ≡ rows_inside table 0 permitted
  unfolding rows_inside collect
  inside-none = sym zero-words

  pub inside-more : (i : ℕ) (s row : List ℕ) → i < most_features → s ≡ rows_inside table i permitted → row ≡ row_at table i
      → added_in s row permitted i ≡ rows_inside table (i + 1) permitted
  unfolding added_in rows_inside is_subset
  inside-more i s row h e q =
      let p : ℕ → Bool = λ i. every room (λ t. not (in_row table i t) || has permitted t) in
      let ws = collect set_words i p in
      rw (e, q) (ap (λ (x : List ℕ). cond (p i) x ws) (sym (insert-at ws i (collect-words set_words i p) (omega arith))) ∙ collect-more set_words i p)

  pub inside-all : (i n : ℕ) (s : List ℕ) → s ≡ rows_inside table i permitted → i ≡ n → s ≡ rows_inside table n permitted
  inside-all i n s e q = e ∙ ap (λ (m : ℕ). rows_inside table m permitted) q
