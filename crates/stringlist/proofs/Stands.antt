-- The place answered is the first at which the string stands, and no other is; what follows, a repeated string too, changes nothing.
-- Assumes nothing.
use mathlib.Core.Path.{◌≡◌, refl, sym, ap, subst, ◌∙◌}
use mathlib.Core.Bool.{Bool, true, false, false≢true}
use mathlib.Core.List.{List, [], ◌∷◌, ◌++◌}
use mathlib.Core.Logic.{◌↔◌}
use Prim.Native.Nat.{ℕ, suc, ◌<◌}
use native.Mathlib.Omega.{arith}
use native.Mathlib.Decide.{dec_lt}
use lib.ListN.{length, get_or, take, drop, length-append, get_or-append}
use lib.Seq.{split_at, get_or-append_seam, get_or-take, length-take-le}
use Rattle.cells.specs.Bytes.{Each}
use Rattle.cells.proofs.Lists.{each_append, each_next, each_at, each-get}
use Rattle.strings.specs.Strings.{same_bytes}
use Rattle.strings.proofs.Strings.{same_true, same_refl, same_false}
use Rattle.positions.specs.Below.{first_that}
use Rattle.std.proofs.Common.{Option, Some, None}
use Rattle.positions.proofs.FirstLaws.{IsFirst, first-that, first-is}
use Rattle.stringlist.specs.StringList.{NotZero, strings_bytes, AreStrings, StandsFirst, stands_at, stands_nowhere, split_at_zeros, is_whole, strings_in, is_string_at, string_place, is_only, is_only_string}
use Rattle.stringlist.proofs.StringLaws.{last-cut, strings-are, are-strings, joined-strings}

-- a list with a string has its last zero byte
some-whole : (list : List ℕ) {i : ℕ} → i < length (strings_in list) → AreStrings list (strings_in list)
unfolding strings_in
some-whole list {i} h = strings-are list (go (is_whole list) refl h)
  where
    go : (w : Bool) → is_whole list ≡ w → i < length (strings_in list) → is_whole list ≡ true
    go true e k = e
    go false e k = let q : i < 0 = rw e at k in absurd (omega arith)

module _ (list text : List ℕ) where
  abbrev all : List (List ℕ)
  all = strings_in list

  -- a string of the list, with those before and behind it
  split-is : {i : ℕ} → i < length all → is_string_at all text i ≡ true → AreStrings list (take i all ++ text ∷ drop (suc i) all)
  split-is {i} h e =
      let t = same_true (get_or all i []) text e in
      subst (λ (ts : List (List ℕ)). AreStrings list ts) (split_at all i [] h ∙ ap (λ (x : List ℕ). take i all ++ x ∷ drop (suc i) all) t) (some-whole list h)

  -- the place answered is so
  stands : (p : Option ℕ) → IsFirst (length all) (is_string_at all text) p → StandsFirst list text p
  stands None f = stands_nowhere none
    where
      none : (before after : List (List ℕ)) → AreStrings list (before ++ text ∷ after) → ⊥
      none before after a =
          let e = (are-strings a).1 in
          let l : length before < length all = omega (arith, ap length e, length-append before (text ∷ after)) in
          let g : get_or all (length before) [] ≡ text = ap (λ (ts : List (List ℕ)). get_or ts (length before) []) e ∙ get_or-append_seam before text after [] in
          false≢true (sym (f (length before) l) ∙ rw g (same_refl text))
  stands (Some r) f =
      let e : length (take r all) ≡ r = length-take-le r all (omega (arith, f.0)) in
      subst (λ (k : ℕ). StandsFirst list text (Some k)) e (stands_at (take r all) (drop (suc r) all) (split-is f.0 f.1) (each_at _ [] (take r all) others))
    where
      others : (i : ℕ) → i < length (take r all) → get_or (take r all) i [] ≡ text → ⊥
      others i h e =
          let l : i < r = omega (arith, length-take-le r all (omega (arith, f.0))) in
          let g : get_or all i [] ≡ text = sym (get_or-take r all i [] l) ∙ e in
          false≢true (sym (f.2 i l) ∙ rw g (same_refl text))

  pub place-stands : StandsFirst list text (string_place list text)
  unfolding string_place
  place-stands = stands (first_that (length all) (is_string_at all text)) (first-that (length all) (is_string_at all text))

  -- and no other is
  first : {p : Option ℕ} → StandsFirst list text p → IsFirst (length all) (is_string_at all text) p
  first (stands_at before after a n) =
      let e = (are-strings a).1 in
      let l = length-append before (text ∷ after) in (
        omega (arith, ap length e, l),
        ap (λ (ts : List (List ℕ)). is_string_at ts text (length before)) e ∙ ap (λ (t : List ℕ). same_bytes t text) (get_or-append_seam before text after []) ∙ same_refl text,
        λ i h. ap (λ (ts : List (List ℕ)). is_string_at ts text i) e
            ∙ ap (λ (t : List ℕ). same_bytes t text) (get_or-append before (text ∷ after) [] i h)
            ∙ same_false (get_or before i []) text (each-get _ [] before n i h),
      )
  first (stands_nowhere n) = λ i h. go i h (is_string_at all text i) refl
    where
      go : (i : ℕ) → i < length all → (q : Bool) → is_string_at all text i ≡ q → is_string_at all text i ≡ false
      go i h true e = absurd (n (take i all) (drop (suc i) all) (split-is h e))
      go i h false e = e

  pub stands-place : {p : Option ℕ} → StandsFirst list text p → p ≡ string_place list text
  unfolding string_place
  stands-place s = first-is (length all) (is_string_at all text) (first s)

  -- a text with a zero byte stands nowhere
  pub zero-nowhere : (Each NotZero text → ⊥) → string_place list text ≡ None
  zero-nowhere h = sym (stands-place (stands_nowhere (λ before after a. h (each_next _ before (text ∷ after) a.plain).0)))

-- nothing stands in a list whose last byte is not zero, nor in one of no bytes
pub cut-nowhere : (list : List ℕ) (b : ℕ) (text : List ℕ) → NotZero b → string_place (list ++ b ∷ []) text ≡ None
unfolding string_place strings_in first_that
cut-nowhere list b text h = let e : is_whole (list ++ b ∷ []) ≡ false = last-cut list b h in rw e

pub empty-nowhere : (text : List ℕ) → string_place [] text ≡ None
unfolding string_place strings_in first_that is_whole split_at_zeros
empty-nowhere text = refl

-- strings that follow, in a list of strings without zero bytes
module _ (text : List ℕ) where
  abbrev place_among : List (List ℕ) → Option ℕ
  place_among ts = first_that (length ts) (is_string_at ts text)

  place-among : (ts : List (List ℕ)) → Each (Each NotZero) ts → string_place (strings_bytes ts) text ≡ place_among ts
  unfolding string_place
  place-among ts h = ap place_among (joined-strings ts h)

  is-first : (ts : List (List ℕ)) {p : Option ℕ} → Each (Each NotZero) ts → string_place (strings_bytes ts) text ≡ p → IsFirst (length ts) (is_string_at ts text) p
  is-first ts h e = subst (IsFirst (length ts) (is_string_at ts text)) (sym (place-among ts h) ∙ e) (first-that (length ts) (is_string_at ts text))

  module _ (before after : List (List ℕ)) where
    in-front : (i : ℕ) → i < length before → is_string_at (before ++ after) text i ≡ is_string_at before text i
    in-front i h = ap (λ (t : List ℕ). same_bytes t text) (get_or-append before after [] i h)

    pub place_kept : Each (Each NotZero) before → Each (Each NotZero) after → {k : ℕ} → string_place (strings_bytes before) text ≡ Some k
        → string_place (strings_bytes (before ++ after)) text ≡ Some k
    place_kept b a {k} e =
        let f = is-first before b e in
        let l = length-append before after in
        place-among (before ++ after) (each_append (Each NotZero) before after b a)
        ∙ sym (first-is (length (before ++ after)) (is_string_at (before ++ after) text) {r = Some k} (
          omega (arith, f.0),
          in-front k f.0 ∙ f.1,
          λ i h. in-front i (omega (arith, f.0)) ∙ f.2 i h,
        ))

-- a string that stands in a list, put behind it once more
pub repeated-later : (ts : List (List ℕ)) (u : List ℕ) → Each (Each NotZero) ts → {k : ℕ} → string_place (strings_bytes ts) u ≡ Some k
    → (text : List ℕ) → string_place (strings_bytes (ts ++ u ∷ [])) text ≡ string_place (strings_bytes ts) text
repeated-later ts u h {k} stands text = go (string_place (strings_bytes ts) text) refl
  where
    f : IsFirst (length ts) (is_string_at ts u) (Some k)
    f = is-first u ts h stands

    plain : Each NotZero u
    plain = subst (Each NotZero) (same_true (get_or ts k []) u f.1) (each-get _ [] ts h k f.0)

    go : (p : Option ℕ) → string_place (strings_bytes ts) text ≡ p → string_place (strings_bytes (ts ++ u ∷ [])) text ≡ string_place (strings_bytes ts) text
    go (Some i) e = place_kept text ts (u ∷ []) h (plain, tt) e ∙ sym e
    go None e =
        place-among text (ts ++ u ∷ []) (each_append (Each NotZero) ts (u ∷ []) h (plain, tt))
        ∙ sym (first-is (length (ts ++ u ∷ [])) (is_string_at (ts ++ u ∷ []) text) {r = None} none)
        ∙ sym e
      where
        others : (i : ℕ) → i < length ts → is_string_at ts text i ≡ false
        others = is-first text ts h e

        at-end : is_string_at (ts ++ u ∷ []) text (length ts) ≡ false
        at-end =
            ap (λ (t : List ℕ). same_bytes t text) (get_or-append_seam ts u [] [])
            ∙ ap (λ (t : List ℕ). same_bytes t text) (sym (same_true (get_or ts k []) u f.1))
            ∙ others k f.0

        none : (i : ℕ) → i < length (ts ++ u ∷ []) → is_string_at (ts ++ u ∷ []) text i ≡ false
        none i l = which (dec_lt i (length ts))
          where
            which : Dec (i < length ts) → is_string_at (ts ++ u ∷ []) text i ≡ false
            which (yes m) = in-front text ts (u ∷ []) i m ∙ others i m
            which (no m) =
                let e : i ≡ length ts = omega (arith, length-append ts (u ∷ [])) in
                rw e at-end

-- the only string of a list: its characters and a zero byte are the list
pub only-exactly : (list text : List ℕ) → Each NotZero text → (is_only_string list text ≡ true) ↔ (list ≡ text ++ 0 ∷ [])
unfolding is_only_string strings_bytes
only-exactly list text plain = (λ h. alone (strings_in list) refl h, λ e. alike (are-strings (record { bytes = sym e; plain = (plain, tt) })).1)
  where
    alone : (ts : List (List ℕ)) → strings_in list ≡ ts → is_only text ts ≡ true → list ≡ text ++ 0 ∷ []
    alone [] e h = absurd (false≢true h)
    alone (t ∷ u ∷ ts) e h = absurd (false≢true h)
    alone (t ∷ []) e h =
        let l : 0 < length (strings_in list) = omega (arith, ap length e) in
        sym (some-whole list l).bytes ∙ ap strings_bytes e ∙ ap (λ (x : List ℕ). x ++ 0 ∷ []) (same_true t text h)

    alike : strings_in list ≡ text ∷ [] → is_only text (strings_in list) ≡ true
    alike e = rw e (same_refl text)
