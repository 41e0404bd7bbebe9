-- One container whose strings are not a container's is refused with 11 at its begin token. Assumes nothing.
use Prim.Native.Nat.{ℕ}
use native.Mathlib.Omega.{arith}
use mathlib.Core.Path.{◌≡◌, refl}
use mathlib.Core.Bool.{Bool, true, false}
use mathlib.Core.List.{List}
use lib.ListN.{length}
use Rattle.refusal.specs.Refusal.{Placed, fault, refuse_at}
use Rattle.refusal.specs.Checks.{first_fault}
use Rattle.header.specs.Header.{blocks_of}
use Rattle.record.specs.declared.Record.{Record}
use Rattle.record.specs.Record.{no_features}
use Rattle.walk.specs.declared.Layout.{Layout}
use Rattle.walk.specs.Checked.{layout_of, check_tree}
use Rattle.walk.specs.Faults.{CheckEnds, answered, header_refused, walk_refused}
use Rattle.walk.proofs.CheckEnds.{check-ends}
use Rattle.container.specs.Container.{is_container_type, is_container_compatible}
use Rattle.container.proofs.Exactly.{type-exactly, compatible-exactly}
use Rattle.nodes.specs.Nodes.{Node, node_at}
use Rattle.nodes.specs.Values.{value_of, bytes_of}
use Rattle.reading.specs.Reading.{containers_of, read_checks, after_walk, read_record}
use Rattle.reading.specs.Accepted.{container_of, ContainerStrings}

module _ (start : ℕ) (containers : List Node) (one : length containers ≡ 1) (r : Placed Record) where
  abbrev c : Node
  c = node_at containers 0

  abbrev refused : Placed Record
  refused = refuse_at no_features (fault 11 c.at)

  checks-refuse : (ContainerStrings c → ⊥) → first_fault (refuse_at no_features) (read_checks start containers) r ≡ refused
  unfolding read_checks first_fault
  checks-refuse n = rw one (go (is_container_type (bytes_of (value_of c "device_type"))) refl (is_container_compatible (bytes_of (value_of c "compatible"))) refl _)
    where
      go : (d : Bool) → is_container_type (bytes_of (value_of c "device_type")) ≡ d → (g : Bool) → is_container_compatible (bytes_of (value_of c "compatible")) ≡ g
          → (x : Placed Record)
          → (elim d as (λ _. Placed Record) [ true ↦ elim g as (λ _. Placed Record) [ true ↦ x | false ↦ refused ] | false ↦ refused ]) ≡ refused
      go false e g k x = refl
      go true e false k x = refl
      go true e true k x = absurd (n (record { device_type = (type-exactly _).0 e; compatible = (compatible-exactly _).0 k }))

module _ (tree : List ℕ) where
  after-walk : {x : Placed Layout} → CheckEnds tree x → x.number ≡ 0 → length (containers_of tree (blocks_of tree)) ≡ 1 → (ContainerStrings (container_of tree) → ⊥)
      → after_walk tree x ≡ refuse_at no_features (fault 11 (container_of tree).at)
  unfolding layout_of
  after-walk (answered h w) z one n = checks-refuse (blocks_of tree).start (containers_of tree (blocks_of tree)) one _ n
  after-walk (header_refused h l m q) z one n = absurd (omega arith)
  after-walk (walk_refused h f) z one n = absurd (omega (arith, f.least))

  pub container-refused : (check_tree tree).number ≡ 0 → length (containers_of tree (blocks_of tree)) ≡ 1 → (ContainerStrings (container_of tree) → ⊥)
      → read_record tree ≡ refuse_at no_features (fault 11 (container_of tree).at)
  unfolding read_record
  container-refused z one n = after-walk (check-ends tree) z one n
