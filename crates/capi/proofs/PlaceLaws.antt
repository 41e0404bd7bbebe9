-- The place of a refused read is at most the largest size of a tree. Assumes nothing.
use mathlib.Core.Path.{◌≡◌, sym, ap, subst}
use mathlib.Core.Bool.{Bool, true, false}
use mathlib.Core.List.{List, [], ◌∷◌, ◌++◌}
use Prim.Native.Nat.{ℕ, ◌≤◌}
use native.Mathlib.Omega.{arith}
use Rattle.refusal.specs.Refusal.{Fault, Placed, placed, refuse_at}
use Rattle.refusal.specs.Checks.{Check, first_fault}
use Rattle.header.specs.declared.Blocks.{Blocks}
use Rattle.header.specs.Header.{largest_tree, header, header_checks, block_checks, blocks_of, no_blocks}
use Rattle.header.proofs.Accepted.{header-lies}
use Rattle.record.specs.declared.Record.{Record}
use Rattle.walk.specs.Walk.{name_in}
use Rattle.walk.specs.Containers.{container_name}
use Rattle.walk.specs.Checked.{check_tree}
use Rattle.walk.specs.Faults.{CheckEnds, answered, header_refused, walk_refused}
use Rattle.walk.specs.declared.Layout.{Layout}
use Rattle.walk.proofs.Faults.{fault-within}
use Rattle.walk.proofs.CheckEnds.{check-ends, checks-trees}
use Rattle.reading.specs.Reading.{containers_of, read_record}
use Rattle.reading.specs.Accepted.{checks_of}
use Rattle.reading.specs.Ends.{FirstFailing, ReadEnds, accepted, check_refused, walk_refused as refused_by_walk}
use Rattle.reading.proofs.Places.{containers-within}
use Rattle.reading.proofs.Numbered.{Numbered, numbered-read}
use Rattle.reading.proofs.Faults.{read-ends}

-- checks in order, each with such a place
abbrev AllLow : List (Check Fault) → Type 0
AllLow [] = Unit {0}
AllLow (c ∷ cs) = (c.fault.place ≤ largest_tree) × AllLow cs

module _ {A : Type 0} (nothing value : A) where
  fault-low : (cs : List (Check Fault)) → AllLow cs → (first_fault (refuse_at nothing) cs (placed value)).place ≤ largest_tree
  unfolding first_fault
  fault-low [] h = omega arith
  fault-low (c ∷ cs) h = go c.holds (fault-low cs h.1)
    where
      go : (b : Bool) → (first_fault (refuse_at nothing) cs (placed value)).place ≤ largest_tree
          → (elim b as (λ _. Placed A) [ true ↦ first_fault (refuse_at nothing) cs (placed value) | false ↦ refuse_at nothing c.fault ]).place ≤ largest_tree
      go true k = k
      go false k = h.0

failed-low : (limit : ℕ) (passed : List (Check Fault)) (failed : Check Fault) (others : List (Check Fault)) → Numbered limit (passed ++ failed ∷ others)
    → failed.fault.place ≤ limit
failed-low limit [] failed others n = n.2
failed-low limit (c ∷ cs) failed others n = failed-low limit cs failed others n.3

module _ (tree : List ℕ) where
  header-low : (header tree).place ≤ largest_tree
  unfolding header header_checks block_checks
  header-low = fault-low no_blocks (blocks_of tree) (header_checks tree) (omega arith)

  end_low : (header tree).number ≡ 0 → (blocks_of tree).end ≤ largest_tree
  end_low z = let lies = header-lies tree z in omega (arith, lies.end, lies.small)

  walk-low : {x : Placed Layout} → CheckEnds tree x → x.place ≤ largest_tree
  walk-low (answered h w) = omega arith
  walk-low (header_refused {place = p} h l m q) =
      let e : (header tree).place ≡ p = ap (λ (y : Placed Blocks). y.place) h in omega (arith, header-low)
  walk-low (walk_refused h f) =
      let b = blocks_of tree in
      omega (arith, fault-within tree b.end (name_in tree b) b.start f, end_low (ap (λ (y : Placed Blocks). y.number) h))

  checks-low : (check_tree tree).number ≡ 0 → {number place : ℕ} → FirstFailing (checks_of tree) number place → place ≤ largest_tree
  checks-low z {number} {place} f =
      let b = blocks_of tree in
      let good = ((checks-trees tree).0 z).0 in
      let n : Numbered b.end (checks_of tree) =
      numbered-read b.end b.start (containers_of tree b) (header-lies tree good).ordered (containers-within b.end container_name tree (name_in tree b) b.start) in
      let q : f.failed.fault.place ≡ place = ap (λ (x : Fault). x.place) f.finds in
      omega (arith, failed-low b.end f.passed f.failed f.others (subst (Numbered b.end) f.split n), end_low good)

  ends_low : {x : Placed Record} → ReadEnds tree x → x.place ≤ largest_tree
  ends_low (accepted a) = omega arith
  ends_low (refused_by_walk {place = p} e l m q) =
      let k : (check_tree tree).place ≡ p = ap (λ (y : Placed Layout). y.place) e in omega (arith, walk-low (check-ends tree))
  ends_low (check_refused z f l m q) = checks-low z f

  pub read_low : (read_record tree).place ≤ largest_tree
  read_low = ends_low (read-ends tree)

-- of an answer
pub place-low : (tree : List ℕ) {r : Placed Record} → r ≡ read_record tree → r.place ≤ largest_tree
place-low tree e = subst (λ (x : Placed Record). x.place ≤ largest_tree) (sym e) (read_low tree)
