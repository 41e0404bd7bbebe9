-- A check of a tree ends with an answer or a numbered refusal, and it answers exactly where the tree is one. Assumes nothing.
use mathlib.Core.Path.{◌≡◌, refl, sym, ap, ◌∙◌}
use mathlib.Core.Bool.{Bool, true, false}
use mathlib.Core.List.{List, [], ◌∷◌}
use mathlib.Core.Logic.{◌↔◌}
use Prim.Native.Nat.{ℕ, zero, suc, ◌≤◌}
use native.Mathlib.Omega.{arith}
use lib.Dec.{T, leb→le}
use lib.ListN.{length}
use Rattle.refusal.specs.Refusal.{Fault, Placed, placed, refuse_at, fault as refusal_at}
use Rattle.refusal.specs.Checks.{Check, first_fault}
use Rattle.header.specs.declared.Blocks.{Blocks}
use Rattle.header.specs.Header.{header_bytes, header, header_checks, block_checks, blocks_of, no_blocks}
use Rattle.header.proofs.Accepted.{header-lies, header-blocks}
use Rattle.walk.specs.Walk.{before_root, Verdict, accepted, refused, walk, name_in}
use Rattle.walk.specs.Grammar.{without_nop_tokens, Tree}
use Rattle.walk.specs.Checked.{no_layout, judge, after_header, check_tree}
use Rattle.walk.specs.Faults.{all_tokens, CheckEnds, answered, header_refused, walk_refused}
use Rattle.walk.specs.declared.Layout.{Layout}
use Rattle.walk.proofs.Faults.{tokens-fault, fault-within}
use Rattle.walk.proofs.Grammar.{accepts-trees}
use Rattle.walk.proofs.Whole.{header-accepted}

-- checks in order: all hold, or one refuses, and P holds of its fault where the checks before it hold
abbrev EachFault : (Fault → Type 0) → List (Check Fault) → Type 0
EachFault P [] = Unit {0}
EachFault P (c ∷ cs) = P c.fault × (T c.holds → EachFault P cs)

data ChecksEnd {A : Type 0} (nothing value : A) (P : Fault → Type 0) : Placed A → Type 0 where
  all_hold : ChecksEnd nothing value P (placed value)
  one_fails : (number place : ℕ) → P (refusal_at number place) → ChecksEnd nothing value P (refuse_at nothing (refusal_at number place))

module _ {A : Type 0} (nothing value : A) (P : Fault → Type 0) where
  checks-end : (cs : List (Check Fault)) → EachFault P cs → ChecksEnd nothing value P (first_fault (refuse_at nothing) cs (placed value))
  unfolding first_fault
  checks-end [] n = all_hold
  checks-end (c ∷ cs) n = go c.holds (λ h. checks-end cs (n.1 h))
    where
      go : (b : Bool) → (T b → ChecksEnd nothing value P (first_fault (refuse_at nothing) cs (placed value)))
          → ChecksEnd nothing value P (elim b as (λ _. Placed A) [ true ↦ first_fault (refuse_at nothing) cs (placed value) | false ↦ refuse_at nothing c.fault ])
      go true f = f tt
      go false f = one_fails c.fault.number c.fault.place n.0

module _ (tree : List ℕ) where
  -- a fault of the header
  abbrev InHeader : Fault → Type 0
  InHeader f = (1 ≤ f.number) × (f.number ≤ 5) × (f.place ≤ length tree)

  block-faults : header_bytes ≤ length tree → EachFault InHeader (block_checks tree)
  unfolding block_checks
  block-faults l = omega arith

  header-faults : EachFault InHeader (header_checks tree)
  unfolding header_checks
  header-faults = (
    omega arith,
    λ h.
        let l = leb→le header_bytes (length tree) h in
        (omega arith, λ _. (omega arith, λ _. (omega arith, λ _. (omega arith, λ _. (omega arith, λ _. (omega arith, λ _. block-faults l)))))),
  )

  header-ends : ChecksEnd no_blocks (blocks_of tree) InHeader (header tree)
  unfolding header
  header-ends = checks-end no_blocks (blocks_of tree) InHeader (header_checks tree) header-faults

  walk-decides : header tree ≡ placed (blocks_of tree) → (v : Verdict) → walk (blocks_of tree).end before_root (all_tokens tree) ≡ v → CheckEnds tree (judge tree (blocks_of tree) v)
  walk-decides h accepted w = answered h w
  walk-decides h (refused n p) w = walk_refused h (tokens-fault (blocks_of tree).end tree (blocks_of tree).end (name_in tree (blocks_of tree)) (blocks_of tree).start before_root w)

  header-decides : {x : Placed Blocks} → ChecksEnd no_blocks (blocks_of tree) InHeader x → header tree ≡ x → CheckEnds tree (after_header tree x)
  header-decides all_hold h = walk-decides h (walk (blocks_of tree).end before_root (all_tokens tree)) refl
  header-decides (one_fails zero place l) h = absurd (omega arith)
  header-decides (one_fails (suc number) place l) h = header_refused h l.0 l.1 l.2

  pub check-ends : CheckEnds tree (check_tree tree)
  unfolding check_tree
  check-ends = header-decides header-ends refl

-- the number is one of 0 to 9; with another than 0 there is no layout, and with 0 the place is 0; the place is an offset in the tree
number_of : {tree : List ℕ} {r : Placed Layout} → CheckEnds tree r → r.number ≤ 9
number_of (answered h w) = omega arith
number_of (header_refused h l m p) = omega arith
number_of (walk_refused h f) = f.most

value_of : {tree : List ℕ} {r : Placed Layout} → CheckEnds tree r → (r.number ≡ 0 → ⊥) → r.value ≡ no_layout
value_of (answered h w) z = absurd (z refl)
value_of (header_refused h l m p) z = refl
value_of (walk_refused h f) z = refl

place_of : {tree : List ℕ} {r : Placed Layout} → CheckEnds tree r → r.number ≡ 0 → r.place ≡ 0
place_of (answered h w) z = refl
place_of (header_refused h l m p) z = absurd (omega arith)
place_of (walk_refused h f) z = absurd (omega (arith, f.least))

place-within : {tree : List ℕ} {r : Placed Layout} → CheckEnds tree r → r.place ≤ length tree
place-within (answered h w) = omega arith
place-within (header_refused h l m p) = p
place-within {tree} (walk_refused h f) =
    let b = blocks_of tree in
    let lies = header-lies tree (ap (λ (x : Placed Blocks). x.number) h) in
    let p = fault-within tree b.end (name_in tree b) b.start f in
    omega (arith, lies.end, lies.within)

module _ (tree : List ℕ) where
  pub check-number : (check_tree tree).number ≤ 9
  check-number = number_of (check-ends tree)

  pub check-refused : ((check_tree tree).number ≡ 0 → ⊥) → (check_tree tree).value ≡ no_layout
  check-refused = value_of (check-ends tree)

  pub check-answered : (check_tree tree).number ≡ 0 → (check_tree tree).place ≡ 0
  check-answered = place_of (check-ends tree)

  pub check-place : (check_tree tree).place ≤ length tree
  check-place = place-within (check-ends tree)

-- it answers exactly where the header is good and the tokens are those of one tree
accepted-of : {tree : List ℕ} {r : Placed Layout} → CheckEnds tree r → r.number ≡ 0
    → ((header tree).number ≡ 0) × (walk (blocks_of tree).end before_root (all_tokens tree) ≡ accepted)
accepted-of (answered h w) z = (ap (λ (x : Placed Blocks). x.number) h, w)
accepted-of (header_refused h l m p) z = absurd (omega arith)
accepted-of (walk_refused h f) z = absurd (omega (arith, f.least))

pub checks-trees : (tree : List ℕ) → (check_tree tree).number ≡ 0 ↔ ((header tree).number ≡ 0) × Tree (blocks_of tree).end (without_nop_tokens (all_tokens tree))
checks-trees tree = (there, back)
  where
    there : (check_tree tree).number ≡ 0 → ((header tree).number ≡ 0) × Tree (blocks_of tree).end (without_nop_tokens (all_tokens tree))
    there z = let r = accepted-of (check-ends tree) z in (r.0, (accepts-trees tree (blocks_of tree)).0 r.1)

    back : ((header tree).number ≡ 0) × Tree (blocks_of tree).end (without_nop_tokens (all_tokens tree)) → (check_tree tree).number ≡ 0
    back r =
        let w = (accepts-trees tree (blocks_of tree)).1 r.1 in
        ap (λ (x : Placed Layout). x.number) (sym (header-accepted tree (sym (header-blocks tree r.0))) ∙ ap (judge tree (blocks_of tree)) w)
