-- "Bytes after the total size are not read": the list of a tree, and each line of it, is decided by what is read; so the first bytes of an
-- input, as many as the largest tree has, decide the list of it all. Assumes nothing.
use mathlib.Core.Path.{◌≡◌, refl, sym, ap, fun_ext, ◌∙◌}
use mathlib.Core.List.{List, [], ◌∷◌}
use Prim.Native.Nat.{ℕ}
use native.Mathlib.Decide.{ℕ_discrete}
use lib.ListN.{take}
use Rattle.refusal.specs.Refusal.{Placed}
use Rattle.header.specs.Header.{largest_tree}
use Rattle.walk.specs.TotalSize.{SameTree}
use Rattle.walk.proofs.TotalSize.{first-bytes}
use Rattle.record.specs.declared.Record.{Record}
use Rattle.nodes.specs.Nodes.{Node, node_at}
use Rattle.reading.specs.Reading.{read_record}
use Rattle.reading.proofs.TotalSize.{same-tree-read, same-tree-features}
use Rattle.listing.specs.Listing.{characters_of, name_of, record_lines, refused_line, listing, line_at, line_checks, write_line, after_line}
use Rattle.listing.proofs.LineLaws.{record-lines, refused-lines}

module _ (s t : List ℕ) (same : SameTree s t) where
  -- the names of an accepted tree's features
  names_same : (read_record s).number ≡ 0 → name_of s ≡ name_of t
  unfolding name_of
  names_same z = fun_ext (λ i. ap (λ (ns : List Node). characters_of (node_at ns i).name) (same-tree-features s t same z))

  pub same-tree-listing : listing s ≡ listing t
  same-tree-listing = go (ℕ_discrete (read_record s).number 0)
    where
      read : read_record s ≡ read_record t
      read = same-tree-read s t same

      number : (read_record s).number ≡ (read_record t).number
      number = ap (λ (o : Placed Record). o.number) read

      go : Dec ((read_record s).number ≡ 0) → listing s ≡ listing t
      go (yes z) =
          record-lines (record { accepted = z; same = ap (λ (o : Placed Record). o.value) read })
          ∙ ap (λ (name : ℕ → List ℕ). record_lines name (read_record t).value) (names_same z)
          ∙ sym (record-lines (record { accepted = sym number ∙ z; same = refl }))
      go (no ne) =
          refused-lines s ne
          ∙ ap (λ (o : Placed Record). refused_line o.number o.place ∷ []) read
          ∙ sym (refused-lines t (λ z. ne (number ∙ z)))

  -- a line in a lent buffer: what is answered, and the buffer afterwards
  pub same-tree-line : (k room : ℕ) → write_line s k room ≡ write_line t k room
  unfolding write_line line_checks line_at
  same-tree-line k room = rw same-tree-listing

  pub same-tree-buffer : (k : ℕ) (old : List ℕ) → after_line s k old ≡ after_line t k old
  unfolding after_line line_checks line_at
  same-tree-buffer k old = rw same-tree-listing

-- what the lister reads of its input
pub first-listing : (input : List ℕ) → listing (take largest_tree input) ≡ listing input
first-listing input = same-tree-listing (take largest_tree input) input (first-bytes input)
