-- A reading ends with the record of an accepted tree, or with a numbered refusal at a place of the tree. Assumes nothing.
use mathlib.Core.Path.{◌≡◌, refl, ap}
use mathlib.Core.Bool.{Bool, true, false}
use mathlib.Core.List.{List, [], ◌∷◌}
use Prim.Native.Nat.{ℕ, zero, suc, ◌≤◌}
use native.Mathlib.Omega.{arith}
use lib.ListN.{length}
use Rattle.refusal.specs.Refusal.{Fault, Placed, placed, refuse_at, fault}
use Rattle.refusal.specs.Checks.{Check, first_fault}
use Rattle.refusal.proofs.Checks.{Passes}
use Rattle.header.specs.declared.Blocks.{Blocks}
use Rattle.header.specs.Header.{blocks_of}
use Rattle.header.proofs.Accepted.{header-lies}
use Rattle.record.specs.declared.Record.{Record}
use Rattle.record.specs.Record.{no_features}
use Rattle.walk.specs.Walk.{name_in}
use Rattle.walk.specs.Containers.{container_name}
use Rattle.walk.specs.Checked.{layout_of, check_tree}
use Rattle.walk.specs.Faults.{CheckEnds, answered, header_refused, walk_refused}
use Rattle.walk.specs.declared.Layout.{Layout}
use Rattle.walk.proofs.CheckEnds.{check-ends, check-place}
use Rattle.reading.specs.Reading.{containers_of, record_of, after_walk, read_record}
use Rattle.reading.specs.Accepted.{container_of, checks_of}
use Rattle.reading.specs.Ends.{FirstFailing, ReadEnds, accepted, check_refused, walk_refused as refused_by_walk}
use Rattle.reading.proofs.Places.{containers-within}
use Rattle.reading.proofs.Numbered.{Numbered, numbered-read}
use Rattle.reading.proofs.Accepted.{passes-accepted}

module _ (limit : ℕ) where
  -- checks in order: all hold, or the first that does not decides
  data ChecksEnd (r : Record) (cs : List (Check Fault)) : Placed Record → Type 0 where
    all_hold : Passes cs → ChecksEnd r cs (placed r)
    one_fails : {number place : ℕ} → FirstFailing cs number place → 8 ≤ number → number ≤ 13 → place ≤ limit → ChecksEnd r cs (refuse_at no_features (fault number place))

  module _ (r : Record) where
    fails-here : (c : Check Fault) (cs : List (Check Fault)) → c.holds ≡ false → FirstFailing (c ∷ cs) c.fault.number c.fault.place
    fails-here c cs e = record { passed = []; failed = c; others = cs; split = refl; hold = tt; fails = e; finds = refl }

    fails-later : (c : Check Fault) (cs : List (Check Fault)) {number place : ℕ} → c.holds ≡ true → FirstFailing cs number place → FirstFailing (c ∷ cs) number place
    fails-later c cs e f = record {
      passed = c ∷ f.passed;
      failed = f.failed;
      others = f.others;
      split = ap (λ (l : List (Check Fault)). c ∷ l) f.split;
      hold = (e, f.hold);
      fails = f.fails;
      finds = f.finds;
    }

    checks-end : (cs : List (Check Fault)) → Numbered limit cs → ChecksEnd r cs (first_fault (refuse_at no_features) cs (placed r))
    unfolding first_fault
    checks-end [] n = all_hold tt
    checks-end (c ∷ cs) n = go c.holds refl (checks-end cs n.3)
      where
        go : (b : Bool) → c.holds ≡ b → {x : Placed Record} → ChecksEnd r cs x
            → ChecksEnd r (c ∷ cs) (elim b as (λ _. Placed Record) [ true ↦ x | false ↦ refuse_at no_features c.fault ])
        go true e (all_hold p) = all_hold (rw e tt, p)
        go true e (one_fails f l m q) = one_fails (fails-later c cs e f) l m q
        go false e x = one_fails (fails-here c cs e) n.0 n.1 n.2

module _ (tree : List ℕ) where
  after-checks : (check_tree tree).number ≡ 0 → (blocks_of tree).end ≤ length tree → {x : Placed Record}
      → ChecksEnd (blocks_of tree).end (record_of (container_of tree)) (checks_of tree) x
      → ReadEnds tree x
  after-checks z l (all_hold p) = accepted (passes-accepted tree z p)
  after-checks z l (one_fails f k m q) = check_refused z f k m (omega arith)

  after-walk : {x : Placed Layout} → CheckEnds tree x → check_tree tree ≡ x → ReadEnds tree (after_walk tree x)
  unfolding layout_of
  after-walk (answered h w) e =
      let b = blocks_of tree in
      let lies = header-lies tree (ap (λ (x : Placed Blocks). x.number) h) in
      let n = numbered-read b.end b.start (containers_of tree b) lies.ordered (containers-within b.end container_name tree (name_in tree b) b.start) in
      after-checks (ap (λ (y : Placed Layout). y.number) e) (omega (arith, lies.end, lies.within)) (checks-end b.end (record_of (container_of tree)) (checks_of tree) n)
  after-walk (header_refused {number = zero} h l m p) e = absurd (omega arith)
  after-walk (header_refused {number = suc n} h l m p) e = refused_by_walk e l (omega arith) p
  after-walk (walk_refused {number = zero} h f) e = absurd (omega (arith, f.least))
  after-walk (walk_refused {number = suc n} {place} h f) e =
      let q : (check_tree tree).place ≡ place = ap (λ (y : Placed Layout). y.place) e in
      refused_by_walk e (omega arith) f.most (omega (arith, check-place tree))

  pub read-ends : ReadEnds tree (read_record tree)
  unfolding read_record
  read-ends = after-walk (check-ends tree) refl
