-- "Bytes after the total size are not read": two lent runs of bytes that are the same in what is read are read as the same record, or are
-- refused alike. Assumes nothing.
use mathlib.Core.Path.{◌≡◌, refl, ap, ◌∙◌}
use mathlib.Core.List.{List}
use Prim.Native.Nat.{ℕ, zero, suc}
use native.Mathlib.Omega.{arith}
use Rattle.refusal.specs.Refusal.{Placed}
use Rattle.header.specs.declared.Blocks.{Blocks}
use Rattle.header.specs.Header.{blocks_of, header}
use Rattle.tokens.specs.Tokens.{Token}
use Rattle.walk.specs.Walk.{tree_tokens}
use Rattle.walk.specs.Containers.{container_name}
use Rattle.walk.specs.Checked.{layout_of}
use Rattle.walk.specs.Faults.{all_tokens, CheckEnds, answered, header_refused, walk_refused}
use Rattle.walk.specs.TotalSize.{SameTree}
use Rattle.walk.specs.declared.Layout.{Layout}
use Rattle.walk.proofs.CheckEnds.{check-ends, checks-trees}
use Rattle.walk.proofs.TotalSize.{same-tree-blocks, same-tree-tokens, same-tree-check}
use Rattle.nodes.specs.Nodes.{node_at, nodes_named, children}
use Rattle.reading.specs.Reading.{after_walk, read_record}
use Rattle.reading.specs.Accepted.{features_of}
use Rattle.reading.proofs.Ends.{read-accepted}

module _ (s t : List ℕ) (same : SameTree s t) where
  -- what comes after the walk
  after_same : {x : Placed Layout} → CheckEnds s x → after_walk s x ≡ after_walk t x
  unfolding layout_of
  after_same (answered h w) = rw (same-tree-tokens s t same (ap (λ (y : Placed Blocks). y.number) h) (blocks_of s).start)
  after_same (header_refused {number = zero} h l m p) = absurd (omega arith)
  after_same (header_refused {number = suc n} h l m p) = refl
  after_same (walk_refused {number = zero} h f) = absurd (omega (arith, f.least))
  after_same (walk_refused {number = suc n} h f) = refl

  pub same-tree-read : read_record s ≡ read_record t
  unfolding read_record
  same-tree-read = after_same (check-ends s) ∙ ap (after_walk t) (same-tree-check s t same)

  -- the features of an accepted tree
  pub same-tree-features : (read_record s).number ≡ 0 → features_of s ≡ features_of t
  same-tree-features z =
      let e : (header s).number ≡ 0 = ((checks-trees s).0 (read-accepted s z).walked).0 in
      let ts : all_tokens s ≡ all_tokens t
      = same-tree-tokens s t same e (blocks_of s).start ∙ ap (λ (b : Blocks). tree_tokens t b b.start) (same-tree-blocks s t same e) in
      ap (λ (us : List Token). children (node_at (nodes_named container_name us) 0)) ts
