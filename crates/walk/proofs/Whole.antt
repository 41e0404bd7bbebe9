-- The parts of the walk make up the whole. Assumes nothing.
use mathlib.Core.Path.{◌≡◌, refl, sym, ap, ◌∙◌}
use mathlib.Core.Bool.{Bool, true, false}
use mathlib.Core.List.{List, [], ◌∷◌, ◌++◌, append_assoc, append-nil}
use Prim.Native.Nat.{ℕ, zero, suc, min}
use native.Mathlib.Omega.{arith}
use lib.ListN.{length}
use Rattle.std.specs.Prelude.{Result}
use Rattle.refusal.specs.Refusal.{number_of, Placed, placed, refuse_at, fault, fault_of_refused}
use Rattle.refusal.specs.declared.RefusedAt.{RefusedAt}
use Rattle.refusal.proofs.Numbers.{numbered}
use Rattle.strings.specs.Strings.{ended, unended, same_bytes}
use Rattle.names.specs.Names.{same_text}
use Rattle.header.specs.declared.Blocks.{Blocks}
use Rattle.tokens.specs.Steps.{pick}
use Rattle.tokens.specs.Tokens.{Token, begin_node, end_node, property, nop, end, fault as fault_token}
use Rattle.walk.specs.Walk.{before_root, in_properties, after_root, parent_of, Verdict, accepted, refused, walk, tree_tokens}
use Rattle.walk.specs.Containers.{container_name, container_offsets, first_two}
use Rattle.header.specs.Header.{header, no_blocks}
use Rattle.walk.specs.Checked.{layout_of, no_layout, judge, after_header, check_tree}
use Rattle.walk.specs.declared.Containers.{Containers}
use Rattle.walk.specs.declared.Layout.{Layout}
use Rattle.walk.specs.Parts.{none, add, notes, Passed, verdict, Ends, outcome, Closes}
use Rattle.walk.proofs.Flow.{notes-append}

-- the containers noted are the first two
one_more : (l : List ℕ) (at : ℕ) → add (first_two l) at ≡ first_two (l ++ at ∷ [])
unfolding first_two
one_more [] at = refl
one_more (x ∷ []) at = refl
one_more (x ∷ y ∷ l) at =
    let a : min 2 (suc (suc (length l))) ≡ 2 = omega arith in
    let b : min 2 (suc (suc (length (l ++ at ∷ [])))) ≡ 2 = omega arith in
    rw (a, b)

pub notes-are : (l : List ℕ) (ts : List Token) → notes (first_two l) ts ≡ first_two (l ++ container_offsets ts)
unfolding notes container_offsets same_text
notes-are l [] = ap first_two (sym (append-nil l))
notes-are l (begin_node at (ended name) ∷ ts) = go (same_bytes name container_name) (notes-are l ts) (notes-are (l ++ at ∷ []) ts)
  where
    go : (x : Bool) → notes (first_two l) ts ≡ first_two (l ++ container_offsets ts) → notes (first_two (l ++ at ∷ [])) ts ≡ first_two ((l ++ at ∷ []) ++ container_offsets ts)
        → notes (pick x (add (first_two l) at) (first_two l)) ts ≡ first_two (l ++ (elim x as (λ _. List ℕ) [ true ↦ at ∷ container_offsets ts | false ↦ container_offsets ts ]))
    go true f h = ap (λ (c : Containers). notes c ts) (one_more l at) ∙ h ∙ ap first_two (append_assoc l (at ∷ []) (container_offsets ts))
    go false f h = f
notes-are l (begin_node at unended ∷ ts) = notes-are l ts
notes-are l (end_node at ∷ ts) = notes-are l ts
notes-are l (property at n v ∷ ts) = notes-are l ts
notes-are l (nop at ∷ ts) = notes-are l ts
notes-are l (end at ∷ ts) = notes-are l ts
notes-are l (fault_token at ∷ ts) = notes-are l ts

-- the outcome of what was read after the root
pub closes : (s : List ℕ) (b : Blocks) (at : ℕ) (found : Containers) {r : Result (Unit {0}) RefusedAt} → Ends s b at r → Closes s b at found (outcome b found (verdict r))
closes s b at found g = record { is = ap (outcome b found) (sym g.same); nothing = g.nothing }

-- the root, its contents, and what follows
module _ (s : List ℕ) (b : Blocks) where
  pub root-refused : {n p : ℕ} → walk b.end before_root (tree_tokens s b b.start) ≡ refused n p
      → refuse_at no_layout (fault n p) ≡ judge s b (walk b.end before_root (tree_tokens s b b.start))
  root-refused w = ap (judge s b) (sym w)

  module _ {next : ℕ} {found : Containers} (root : Passed s b before_root b.start none (in_properties 1 []) next found) where
    pub contents-refused : {n p : ℕ} → walk b.end (in_properties 1 []) (tree_tokens s b next) ≡ refused n p
        → refuse_at no_layout (fault n p) ≡ judge s b (walk b.end before_root (tree_tokens s b b.start))
    contents-refused w = ap (judge s b) (sym (root.same ∙ w))

    pub all_closed : {last : ℕ} {all : Containers} {r : Placed Layout} → Passed s b (in_properties 1 []) next found (parent_of 1) last all → Closes s b last all r
        → r ≡ judge s b (walk b.end before_root (tree_tokens s b b.start))
    unfolding layout_of first_two
    all_closed {last} {all} inner g = g.is ∙ decide (walk b.end after_root (tree_tokens s b last)) refl
      where
        W : walk b.end before_root (tree_tokens s b b.start) ≡ walk b.end after_root (tree_tokens s b last)
        W = root.same ∙ inner.same

        found_all : notes all (tree_tokens s b last) ≡ notes none (tree_tokens s b b.start)
        found_all =
            sym (ap (notes none) (root.split ∙ ap (λ (ts : List Token). root.read ++ ts) inner.split)
            ∙ notes-append none root.read (inner.read ++ tree_tokens s b last)
            ∙ ap (λ (c : Containers). notes c (inner.read ++ tree_tokens s b last)) (sym root.noted)
            ∙ notes-append found inner.read (tree_tokens s b last)
            ∙ ap (λ (c : Containers). notes c (tree_tokens s b last)) (sym inner.noted))

        decide : (v : Verdict) → walk b.end after_root (tree_tokens s b last) ≡ v → outcome b all v ≡ judge s b (walk b.end before_root (tree_tokens s b b.start))
        decide accepted w =
            let k : all ≡ first_two (container_offsets (tree_tokens s b b.start)) = sym (g.nothing w all) ∙ found_all ∙ notes-are [] (tree_tokens s b b.start) in
            rw (W, w) (ap (λ (c : Containers). placed (record { blocks = b; containers = c })) k)
        decide (refused n p) w = rw (W, w)

-- the header, and then the walk
module _ (tree : List ℕ) where
  pub header_refused : (e : RefusedAt) → refuse_at no_blocks (fault_of_refused e) ≡ header tree → refuse_at no_layout (fault_of_refused e) ≡ check_tree tree
  unfolding check_tree
  header_refused e h = go (number_of e.refusal) refl ∙ ap (after_header tree) h
    where
      go : (m : ℕ) → number_of e.refusal ≡ m → refuse_at no_layout (fault m e.place) ≡ after_header tree (refuse_at no_blocks (fault m e.place))
      go zero q = absurd (numbered e.refusal q)
      go (suc m) q = refl

  pub header-accepted : {b : Blocks} → placed b ≡ header tree → judge tree b (walk b.end before_root (tree_tokens tree b b.start)) ≡ check_tree tree
  unfolding check_tree
  header-accepted h = ap (after_header tree) h
