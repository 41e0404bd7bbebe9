-- Laws of marks. Assumes nothing.
use mathlib.Core.Path.{◌≡◌, refl, sym, ap, ◌∙◌}
use mathlib.Core.Bool.{Bool, true, false}
use mathlib.Core.List.{List, [], ◌∷◌, ◌++◌}
use Prim.Native.Nat.{ℕ, ◌+◌, ◌-◌, ◌*◌, ◌/◌, ◌%◌, ◌<◌, ◌≤◌, min}
use native.Mathlib.Omega.{arith}
use native.Mathlib.Decide.{dec_le, ℕ_discrete}
use lib.ListN.{length, get_or, get_or-eq_default, set, take, drop, length-take, length-drop, length-set}
use lib.Seq.{take-take, get_or-set_same, get_or-set_other}
use Rattle.refusal.specs.Refusal.{answer, refuse}
use Rattle.strings.specs.Strings.{Text, ended, unended, text_at}
use Rattle.strings.proofs.Strings.{text-taken, same_true}
use Rattle.names.specs.Names.{both, either, is_property_name, property_name_at, same_text}
use Rattle.names.proofs.NameLaws.{property-name-good, property-name-bad}
use Rattle.tokens.specs.Steps.{pick}
use Rattle.tokens.specs.Tokens.{Token}
use Rattle.properties.specs.Properties.{name_at, among, given_before, name_fault}
use Rattle.properties.specs.Marks.{mark_from, mark_of, is_set, with_mark}
use Rattle.properties.proofs.LookBack.{here, good-fault, name-given}

-- no characters
pub mark-empty : (s : List ℕ) → length s ≡ 0 → 0 ≡ mark_from s
unfolding mark_from
mark-empty [] h = refl
mark-empty (c ∷ cs) h = absurd (omega arith)

-- four of them, as the code reads them
pub mark-some : (s : List ℕ) {a b c d : ℕ} → a ≡ get_or s 0 0 → b ≡ get_or s (length s / 3) 0 → c ≡ get_or s (length s - 1 - length s / 3) 0 → d ≡ get_or s (length s - 1) 0
    → (length s % 256 * 37 + a * 59 + b * 5 + c * 13 + d * 17) % 256 ≡ mark_from s
unfolding mark_from
mark-some s e f g h = rw (e, f, g, h)

-- a run of bytes that ends in a list is as long as it says
pub cut-long : (s : List ℕ) (from n : ℕ) → from + n < length s → n ≡ length (take n (take (length s - from) (drop from s)))
cut-long s from n h =
    omega (arith, length-take n (take (length s - from) (drop from s)), length-take (length s - from) (drop from s), length-drop from s)

-- a good name: its mark is that of its bytes, and it is looked back for where that mark is set
module _ (bytes : List ℕ) (from limit offset : ℕ) {place : ℕ} (q : place ≡ min limit (from + offset)) {n : ℕ} (e : property_name_at bytes place limit ≡ answer n) where
  pub mark-read : {mark : ℕ} → mark ≡ mark_from (take n (take (length bytes - place) (drop place bytes))) → mark ≡ mark_of (name_at bytes from limit offset)
  unfolding mark_of
  mark-read k =
      let g = property-name-good bytes place limit n e in
      k ∙ ap mark_from (take-take n (length bytes - place) (drop place bytes) (omega (arith, g.in_bytes)))
      ∙ ap (λ (m : ℕ). mark_from (take m (drop place bytes))) (sym g.long) ∙ ap mark_from (text-taken bytes place limit g.characters g.text) ∙ ap mark_of (sym g.text ∙ here bytes from limit offset q)

  module _ (marks : List Bool) {mark : ℕ} (m : mark ≡ mark_of (name_at bytes from limit offset)) where
    pub mark-put : {later : List Bool} → later ≡ set marks mark true → later ≡ with_mark (name_at bytes from limit offset) marks
    unfolding with_mark
    mark-put k =
        let g = property-name-good bytes place limit n e in
        let z : is_property_name (name_at bytes from limit offset) ≡ true = ap is_property_name (sym (here bytes from limit offset q) ∙ g.text) ∙ g.right in
        k ∙ rw (m, z)

    module _ (t : ℕ) (ts : List Token) {r : Bool} (s : r ≡ is_set marks mark) where
      pub mark_set : {number : ℕ} → r ≡ true → number ≡ pick (given_before t (text_at bytes place limit) ts) 9 0
          → number ≡ name_fault (name_at bytes from limit offset) (both (is_set marks (mark_of (name_at bytes from limit offset))) (given_before t (name_at bytes from limit offset) ts))
      mark_set k g =
          let z : is_set marks (mark_of (name_at bytes from limit offset)) ≡ true = ap (is_set marks) (sym m) ∙ sym s ∙ k in
          rw z (name-given bytes from limit offset q t ts e g)

      pub mark-new : r ≡ false
          → 0 ≡ name_fault (name_at bytes from limit offset) (both (is_set marks (mark_of (name_at bytes from limit offset))) (given_before t (name_at bytes from limit offset) ts))
      mark-new k =
          let z : is_set marks (mark_of (name_at bytes from limit offset)) ≡ false = ap (is_set marks) (sym m) ∙ sym s ∙ k in
          rw z (sym (good-fault bytes from limit offset q false e))

-- any other leaves the marks as they are
pub mark-none : (bytes : List ℕ) (from limit offset : ℕ) {place : ℕ} → place ≡ min limit (from + offset) → (marks : List Bool) → property_name_at bytes place limit ≡ refuse 0 7
    → marks ≡ with_mark (name_at bytes from limit offset) marks
unfolding with_mark
mark-none bytes from limit offset {place} q marks e =
    let z : is_property_name (name_at bytes from limit offset) ≡ false = ap is_property_name (sym (here bytes from limit offset q)) ∙ property-name-bad bytes place limit e in
    rw z

-- there are as many marks as before
pub with-long : (n : Text) (marks : List Bool) → length (with_mark n marks) ≡ length marks
unfolding with_mark
with-long n marks = go (is_property_name n)
  where
    go : (x : Bool) → length (pick x (set marks (mark_of n) true) marks) ≡ length marks
    go true = length-set marks (mark_of n) true
    go false = refl

no_way : true ≡ false → ⊥
no_way e = cc

-- where a name's mark is still not set, it was not set before, and the name that set one is another
other-mark : (marks : List Bool) (m n : ℕ) → is_set (set marks m true) n ≡ false → (m ≡ n → ⊥) × (is_set marks n ≡ false)
unfolding is_set
other-mark marks m n h = go (ℕ_discrete n m) (dec_le (length marks) n)
  where
    go : Dec (n ≡ m) → Dec (length marks ≤ n) → (m ≡ n → ⊥) × (get_or marks n true ≡ false)
    go (no e) l = (λ k. e (sym k), sym (get_or-set_other marks m n true true e) ∙ h)
    go (yes e) (yes l) = let k : length (set marks m true) ≤ n = rw length-set l in absurd (no_way (sym (get_or-eq_default (set marks m true) true k) ∙ h))
    go (yes e) (no l) =
        let z : get_or (set marks m true) n true ≡ true = rw e (get_or-set_same marks m true true (omega arith)) in
        absurd (no_way (sym z ∙ h))

same-mark : (m n : Text) → same_text m n ≡ true → mark_of m ≡ mark_of n
unfolding same_text
same-mark (ended cs) (ended ds) e = ap (λ (x : List ℕ). mark_of (ended x)) (same_true cs ds e)
same-mark (ended cs) unended e = absurd (no_way (sym e))
same-mark unended n e = absurd (no_way (sym e))

pub other_name : (marks : List Bool) (m n : Text) → is_property_name m ≡ true → is_set (with_mark m marks) (mark_of n) ≡ false → (is_set marks (mark_of n) ≡ false) × (same_text m n ≡ false)
unfolding with_mark
other_name marks m n p h =
    let o = other-mark marks (mark_of m) (mark_of n) (rw p at h) in
    (o.1, go (same_text m n) refl)
  where
    go : (x : Bool) → same_text m n ≡ x → same_text m n ≡ false
    go true e = absurd ((other-mark marks (mark_of m) (mark_of n) (rw p at h)).0 (same-mark m n e))
    go false e = e

-- a name that is neither among others nor the next
neither : (x y : Bool) → either x y ≡ false → (x ≡ false) × (y ≡ false)
neither true y e = absurd (no_way e)
neither false y e = (refl, e)

pub not-among : (n m : Text) (ms : List Text) → among n ms ≡ false → same_text m n ≡ false → among n (ms ++ m ∷ []) ≡ false
unfolding among
not-among n m [] a e = rw e
not-among n m (k ∷ ms) a e = let b = neither (same_text k n) (among n ms) a in rw b.0 (not-among n m ms b.1 e)
