-- The place of a string in a list, and the only string of one, by where a scan stops. Assumes nothing.
use mathlib.Core.Path.{◌≡◌, refl, sym, ap, ◌∙◌}
use mathlib.Core.Bool.{Bool, true, false, ◌||◌, cond}
use mathlib.Core.List.{List, [], ◌∷◌, ◌++◌}
use Prim.Native.Nat.{ℕ, ◌+◌, ◌-◌, ◌<◌, ◌≤◌}
use native.Mathlib.Omega.{arith}
use borrow.Author.Tests.{eq-eqb}
use lib.ListN.{length, take, drop, drop_of_length-le, length-append}
use Rattle.strings.specs.Strings.{same_bytes}
use Rattle.strings.proofs.Strings.{text-zero}
use Rattle.std.proofs.Common.{Option, Some, None, Result, Ok, Err}
use Rattle.positions.specs.Below.{first_that}
use Rattle.stringlist.specs.declared.StringAt.{StringAt}
use Rattle.stringlist.specs.StringList.{strings_bytes, split_at_zeros, is_whole, strings_in, is_string_at, string_place, is_only, is_only_string}
use Rattle.stringlist.specs.Parts.{at_string, stop_in}
use Rattle.stringlist.proofs.StringLaws.{split-few, whole-bytes}
use Rattle.stringlist.proofs.StopLaws.{Found, found_within, found-bytes, found-split, first_found, place_in, later, stop-place}

module _ (list text : List ℕ) where
  -- the place: nowhere in a list without its last zero byte, else where a scan stops that seeks no place
  pub place-cut : is_whole list ≡ false → None ≡ string_place list text
  unfolding string_place strings_in first_that
  place-cut h = rw h

  from-0 : (r : Option ℕ) → later 0 r ≡ r
  from-0 (Some i) = ap Some (omega arith)
  from-0 None = refl

  pub place-stop : is_whole list ≡ true → {s : Result StringAt ℕ} → s ≡ stop_in text (length list) 0 0 (split_at_zeros list) → place_in s ≡ string_place list text
  unfolding string_place strings_in
  place-stop h e =
      ap place_in e
      ∙ stop-place text (split_at_zeros list) (length list) 0 0 (omega (arith, split-few list))
      ∙ from-0 (first_that (length (split_at_zeros list)) (is_string_at (split_at_zeros list) text))
      ∙ rw h

  -- the only string: the scan stops at the first one
  module _ {x : StringAt} (s : Ok x ≡ stop_in text 0 0 0 (split_at_zeros list)) where
    first : (x.from ≡ 0) × Found list 0 x.to
    first = first_found list text s

    pub first-within : (x.from ≤ x.to) × (x.to < length list)
    first-within = omega (arith, first.0, found_within list 0 first.1)

    abbrev rest : List (List ℕ)
    rest = split_at_zeros (drop (x.to + 1) list)

    split : split_at_zeros list ≡ first.1.characters ∷ rest
    split = found-split list 0 first.1

    pub only-more : x.to + 1 < length list → false ≡ is_only_string list text
    unfolding is_only_string strings_in strings_bytes
    only-more m = go (is_whole list) refl rest split
      where
        go : (w : Bool) → is_whole list ≡ w → (ts : List (List ℕ)) → split_at_zeros list ≡ first.1.characters ∷ ts
            → false ≡ is_only text (cond w (split_at_zeros list) [])
        go false h ts e = refl
        go true h [] e =
            let z : first.1.characters ++ 0 ∷ [] ≡ list = ap strings_bytes (sym e) ∙ whole-bytes list h in
            absurd (omega (arith, ap length z, length-append first.1.characters (0 ∷ []), first.1.end))
        go true h (t ∷ ts) e = rw e

    last-zero : length list ≤ x.to + 1 → is_whole list ≡ true
    unfolding is_whole
    last-zero m =
        let n : length list - 1 ≡ 0 + length first.1.characters = omega (arith, first.1.end, found_within list 0 first.1) in
        rw n (eq-eqb _ 0 (text-zero list 0 (length list) first.1.characters first.1.text))

    pub only-last : length list ≤ x.to + 1 → same_bytes (take (x.to - x.from) (drop x.from list)) text ≡ is_only_string list text
    unfolding is_only_string strings_in split_at_zeros
    only-last m =
        let e : split_at_zeros list ≡ first.1.characters ∷ [] = split ∙ ap (λ (l : List ℕ). first.1.characters ∷ split_at_zeros l) (drop_of_length-le list m) in
        rw (first.0, found-bytes list 0 first.1, last-zero m, e)

  pub only_none : {count : ℕ} → Err count ≡ stop_in text 0 0 0 (split_at_zeros list) → false ≡ is_only_string list text
  unfolding is_only_string strings_in stop_in
  only_none {count} e = go (split_at_zeros list) e (is_whole list)
    where
      go : (ts : List (List ℕ)) → Err count ≡ stop_in text 0 0 0 ts → (w : Bool) → false ≡ is_only text (cond w ts [])
      go [] k true = refl
      go [] k false = refl
      go (t ∷ ts) k w = absurd (stops (same_bytes t text) k)
        where
          stops : (q : Bool) → Err count ≡ cond (q || true) (at_string 0 0 (0 + length t)) (stop_in text 0 (0 + 1) (0 + length t + 1) ts) → ⊥
          stops true j = let z : ◌≡◌ {A = ℕ} 0 1 = cc in omega arith
          stops false j = let z : ◌≡◌ {A = ℕ} 0 1 = cc in omega arith
