-- A reading's number, place and record: which there are, and that a refused one is empty. Assumes nothing.
use mathlib.Core.Path.{◌≡◌, refl, ap}
use mathlib.Core.List.{List}
use Prim.Native.Nat.{ℕ, ◌≤◌}
use native.Mathlib.Omega.{arith}
use lib.ListN.{length}
use Rattle.refusal.specs.Refusal.{Placed, placed}
use Rattle.record.specs.declared.Record.{Record}
use Rattle.record.specs.Record.{no_features}
use Rattle.reading.specs.Reading.{record_of, read_record}
use Rattle.reading.specs.Accepted.{container_of, Accepted}
use Rattle.reading.specs.Ends.{ReadEnds, accepted, walk_refused, check_refused}
use Rattle.reading.proofs.Faults.{read-ends}

number_of : {tree : List ℕ} {r : Placed Record} → ReadEnds tree r → r.number ≤ 13
number_of (accepted a) = omega arith
number_of (walk_refused e l m p) = omega arith
number_of (check_refused z f l m p) = m

place_of : {tree : List ℕ} {r : Placed Record} → ReadEnds tree r → r.place ≤ length tree
place_of (accepted a) = omega arith
place_of (walk_refused e l m p) = p
place_of (check_refused z f l m p) = p

value_of : {tree : List ℕ} {r : Placed Record} → ReadEnds tree r → (r.number ≡ 0 → ⊥) → r.value ≡ no_features
value_of (accepted a) z = absurd (z refl)
value_of (walk_refused e l m p) z = refl
value_of (check_refused w f l m p) z = refl

answer-of : {tree : List ℕ} {r : Placed Record} → ReadEnds tree r → r.number ≡ 0 → (r ≡ placed (record_of (container_of tree))) × Accepted tree
answer-of (accepted a) z = (refl, a)
answer-of (walk_refused e l m p) z = absurd (omega arith)
answer-of (check_refused w f l m p) z = absurd (omega arith)

module _ (tree : List ℕ) where
  pub read-number : (read_record tree).number ≤ 13
  read-number = number_of (read-ends tree)

  pub read-place : (read_record tree).place ≤ length tree
  read-place = place_of (read-ends tree)

  pub read-refused : ((read_record tree).number ≡ 0 → ⊥) → (read_record tree).value ≡ no_features
  read-refused = value_of (read-ends tree)

  -- an accepted tree: its answer is the record of its container, with place 0
  pub read-accepted : (read_record tree).number ≡ 0 → Accepted tree
  read-accepted z = (answer-of (read-ends tree) z).1

  pub read_answer : (read_record tree).number ≡ 0 → read_record tree ≡ placed (record_of (container_of tree))
  read_answer z = (answer-of (read-ends tree) z).0

  pub read-answered : (read_record tree).number ≡ 0 → (read_record tree).place ≡ 0
  read-answered z = ap (λ (r : Placed Record). r.place) (read_answer z)
