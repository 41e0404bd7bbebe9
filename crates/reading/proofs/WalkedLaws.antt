-- What the walk says of an accepted tree, and what is read where it refuses. Assumes nothing.
use mathlib.Core.Path.{◌≡◌, refl, sym, ap, ◌∙◌}
use mathlib.Core.List.{List}
use Prim.Native.Nat.{ℕ, zero, suc}
use native.Mathlib.Omega.{arith}
use Rattle.refusal.specs.declared.RefusedAt.{RefusedAt}
use Rattle.refusal.specs.Refusal.{Placed, placed, refuse_at, fault, number_of, fault_of_refused}
use Rattle.refusal.proofs.Numbers.{numbered}
use Rattle.header.specs.declared.Blocks.{Blocks}
use Rattle.header.specs.Header.{blocks_of}
use Rattle.header.proofs.Accepted.{Lies, header-lies}
use Rattle.record.specs.declared.Record.{Record}
use Rattle.record.specs.Record.{no_features}
use Rattle.walk.specs.declared.Containers.{Containers}
use Rattle.walk.specs.declared.Layout.{Layout}
use Rattle.walk.specs.Containers.{first_two}
use Rattle.walk.specs.Checked.{check_tree, no_layout, layout_of}
use Rattle.walk.specs.Faults.{CheckEnds, answered, header_refused, walk_refused}
use Rattle.walk.proofs.CheckEnds.{check-ends}
use Rattle.reading.specs.Reading.{containers_of, read_accepted, after_walk, read_record}
use Rattle.reading.proofs.Containers.{offsets, containers-noted}

-- what an accepted tree's walk says
pub record Walked (tree : List ℕ) (b : Blocks) (found : Containers) : Type 0 where
  pub blocks : b ≡ blocks_of tree
  pub lies : Lies tree b
  pub noted : found ≡ first_two (offsets (containers_of tree b))

blocks-of : {tree : List ℕ} {r : Placed Layout} → CheckEnds tree r → r.number ≡ 0 → r.value.blocks ≡ blocks_of tree
unfolding layout_of
blocks-of (answered h w) z = refl
blocks-of (header_refused h l m p) z = absurd (omega arith)
blocks-of (walk_refused h f) z = absurd (omega (arith, f.least))

lies-of : {tree : List ℕ} {r : Placed Layout} → CheckEnds tree r → r.number ≡ 0 → Lies tree (blocks_of tree)
lies-of {tree} (answered h w) z = header-lies tree (ap (λ (x : Placed Blocks). x.number) h)
lies-of (header_refused h l m p) z = absurd (omega arith)
lies-of (walk_refused h f) z = absurd (omega (arith, f.least))

pub walked : {tree : List ℕ} {b : Blocks} {found : Containers} → check_tree tree ≡ placed (record { blocks = b; containers = found }) → Walked tree b found
walked {tree} {b} {found} e =
    let z : (check_tree tree).number ≡ 0 = ap (λ (x : Placed Layout). x.number) e in
    let q : b ≡ blocks_of tree = sym (ap (λ (x : Placed Layout). x.value.blocks) e) ∙ blocks-of (check-ends tree) z in
    record {
      blocks = q;
      lies = rw q (lies-of (check-ends tree) z);
      noted = sym (ap (λ (x : Placed Layout). x.value.containers) e) ∙ rw q (containers-noted tree z);
    }

-- the walk comes first
module _ (tree : List ℕ) where
  pub walk-refused : (e : RefusedAt) → refuse_at no_layout (fault_of_refused e) ≡ check_tree tree
      → refuse_at no_features (fault_of_refused e) ≡ read_record tree
  unfolding read_record
  walk-refused e k = go (number_of e.refusal) (numbered e.refusal) ∙ ap (after_walk tree) k
    where
      go : (n : ℕ) → (n ≡ 0 → ⊥) → refuse_at no_features (fault n e.place) ≡ after_walk tree (refuse_at no_layout (fault n e.place))
      go zero z = absurd (z refl)
      go (suc n) z = refl

  pub after-accepted : {b : Blocks} {found : Containers} → check_tree tree ≡ placed (record { blocks = b; containers = found })
      → {x : Placed Record} → x ≡ read_accepted tree b → x ≡ read_record tree
  unfolding read_record
  after-accepted e q = q ∙ sym (ap (after_walk tree) e)
