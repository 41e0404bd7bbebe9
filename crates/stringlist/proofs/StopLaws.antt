-- Where a scan of strings stops, string by string and as a whole. Assumes nothing.
use mathlib.Core.Path.{◌≡◌, refl, sym, ap, subst, ◌∙◌}
use mathlib.Core.Bool.{Bool, true, false, ◌||◌, cond}
use mathlib.Core.List.{List, [], ◌∷◌, ◌++◌}
use Prim.Native.Nat.{ℕ, suc, zero, ◌+◌, ◌-◌, ◌<◌, ◌≤◌}
use native.Mathlib.Omega.{arith}
use borrow.Author.Tests.{eq-eqb, ne_eqb}
use lib.Dec.{eqb}
use lib.ListN.{length, get_or, take, drop, length-drop, length-append}
use lib.Seq.{take_all, drop-drop}
use Rattle.cells.specs.Bytes.{Each}
use Rattle.strings.specs.Strings.{Text, ended, unended, text_of, text_at, ending_of, same_bytes}
use Rattle.strings.proofs.Strings.{text-within, text-taken, same_false}
use Rattle.std.proofs.Common.{Option, Some, None, Result, Ok, Err}
use Rattle.positions.specs.Below.{from_before, first_that}
use Rattle.stringlist.specs.declared.StringAt.{StringAt}
use Rattle.stringlist.specs.StringList.{NotZero, strings_bytes, split_at_zeros, is_string_at}
use Rattle.stringlist.specs.Parts.{at_string, stop_in}
use Rattle.stringlist.proofs.StringLaws.{split-ended, split-unended}

-- the string at an offset of a list, as the code finds its end
module _ (list : List ℕ) (from : ℕ) where
  abbrev pub here : Text
  here = text_at list from (length list)

  whole-rest : take (length list - from) (drop from list) ≡ drop from list
  whole-rest = take_all (length list - from) (drop from list) (omega (arith, length-drop from list))

  -- its characters, and where its zero byte stands
  pub record Found (to : ℕ) : Type 0 where
    pub characters : List ℕ
    pub text : here ≡ ended characters
    pub end : to ≡ from + length characters

  pub found : {to : ℕ} → ending_of from here ≡ Some to → Found to
  unfolding ending_of
  found {to} e = go here refl e
    where
      go : (t : Text) → here ≡ t → ending_of from t ≡ Some to → Found to
      go (ended cs) h k = record { characters = cs; text = h; end = cc }
      go unended h k = let z : ◌≡◌ {A = ℕ} 0 1 = cc in absurd (omega arith)

  pub found_within : {to : ℕ} → Found to → (from ≤ to) × (to < length list)
  found_within f = omega (arith, f.end, text-within list from (length list) f.characters f.text)

  pub found-bytes : {to : ℕ} (f : Found to) → take (to - from) (drop from list) ≡ f.characters
  found-bytes {to} f =
      let n : to - from ≡ length f.characters = omega (arith, f.end) in
      rw n (text-taken list from (length list) f.characters f.text)

  pub found-split : {to : ℕ} (f : Found to) → split_at_zeros (drop from list) ≡ f.characters ∷ split_at_zeros (drop (to + 1) list)
  unfolding text_at
  found-split {to} f =
      let e : text_of (drop from list) ≡ ended f.characters = ap text_of (sym whole-rest) ∙ f.text in
      let n : from + suc (length f.characters) ≡ to + 1 = omega (arith, f.end) in
      split-ended (drop from list) f.characters e
      ∙ ap (λ (l : List ℕ). f.characters ∷ split_at_zeros l) (drop-drop (suc (length f.characters)) from list ∙ ap (λ (k : ℕ). drop k list) n)

  none-split : ending_of from here ≡ None → split_at_zeros (drop from list) ≡ []
  unfolding ending_of text_at
  none-split e = split-unended (drop from list) (ap text_of (sym whole-rest) ∙ go here refl e)
    where
      go : (t : Text) → here ≡ t → ending_of from t ≡ None → here ≡ unended
      go (ended cs) h k = let z : ◌≡◌ {A = ℕ} 0 1 = cc in absurd (omega arith)
      go unended h k = h

-- one string more of a scan
module _ (list text : List ℕ) (sought : ℕ) where
  abbrev pub stop_from : ℕ → ℕ → Result StringAt ℕ
  stop_from place from = stop_in text sought place from (split_at_zeros (drop from list))

  module _ (place from : ℕ) where
    pub stop-none : ending_of from (here list from) ≡ None → Err place ≡ stop_from place from
    unfolding stop_in
    stop-none e = rw (none-split list from e)

    module _ {to : ℕ} (f : Found list from to) where
      abbrev same : Bool
      same = same_bytes (take (to - from) (drop from list)) text

      same-is : same_bytes f.characters text ≡ same
      same-is = ap (λ (l : List ℕ). same_bytes l text) (sym (found-bytes list from f))

      stop-cons : stop_from place from
          ≡ cond (same || eqb place sought) (at_string place from to) (stop_from (place + 1) (to + 1))
      unfolding stop_in
      stop-cons =
          let n : from + length f.characters ≡ to = sym f.end in
          rw (found-split list from f, n, same-is)

      pub stop-same : same ≡ true → at_string place from to ≡ stop_from place from
      stop-same e = sym (stop-cons ∙ rw e)

      pub stop-sought : same ≡ false → place ≡ sought → at_string place from to ≡ stop_from place from
      stop-sought e p = sym (stop-cons ∙ rw (e, eq-eqb place sought p))

      pub stop-later : same ≡ false → (place ≡ sought → ⊥) → stop_from (place + 1) (to + 1) ≡ stop_from place from
      stop-later e p = sym (stop-cons ∙ rw (e, ne_eqb place sought p))

-- the first string of a list, where a scan stops that seeks place 0
abbrev begin_of : Result StringAt ℕ → ℕ
begin_of (Ok x) = x.from
begin_of (Err n) = n

abbrev end_of : Result StringAt ℕ → ℕ
end_of (Ok x) = x.to
end_of (Err n) = n

pub first_found : (list text : List ℕ) {x : StringAt} → Ok x ≡ stop_in text 0 0 0 (split_at_zeros list) → (x.from ≡ 0) × Found list 0 x.to
unfolding stop_in split_at_zeros ending_of
first_found list text {x} s = go (here list 0) refl
  where
    go : (t : Text) → here list 0 ≡ t → (x.from ≡ 0) × Found list 0 x.to
    go unended h =
        let e : ◌≡◌ {A = Result StringAt ℕ} (Ok x) (Err 0) = s ∙ sym (stop-none list text 0 0 0 (ap (ending_of 0) h)) in
        let z : ◌≡◌ {A = ℕ} 0 1 = cc in
        absurd (omega arith)
    go (ended cs) h =
        let f : Found list 0 (length cs) = record { characters = cs; text = h; end = omega arith } in
        let e : Ok x ≡ at_string 0 0 (length cs) = s ∙ sym (stops (same_bytes (take (length cs - 0) (drop 0 list)) text) refl f) in
        let n : x.to ≡ length cs = ap end_of e in
        (ap begin_of e, record { characters = cs; text = h; end = omega arith })
      where
        stops : (q : Bool) → same_bytes (take (length cs - 0) (drop 0 list)) text ≡ q → Found list 0 (length cs) → at_string 0 0 (length cs) ≡ stop_in text 0 0 0 (split_at_zeros list)
        stops true k f = stop-same list text 0 0 0 f k
        stops false k f = stop-sought list text 0 0 0 f k refl

-- the place of what a scan stops at
abbrev pub place_in : Result StringAt ℕ → Option ℕ
place_in (Ok x) = Some x.place
place_in (Err count) = None

abbrev pub later : ℕ → Option ℕ → Option ℕ
later n (Some i) = Some (n + i)
later n None = None

later-next : (n : ℕ) (r : Option ℕ) → later (n + 1) r ≡ later n (from_before r)
later-next n (Some i) = ap Some (omega arith)
later-next n None = refl

-- without a place that is sought, it stops at the first that is the text
module _ (text : List ℕ) where
  pub stop-place : (ts : List (List ℕ)) (sought place from : ℕ) → place + length ts ≤ sought
      → place_in (stop_in text sought place from ts) ≡ later place (first_that (length ts) (is_string_at ts text))
  unfolding stop_in first_that
  stop-place [] sought place from h = refl
  stop-place (t ∷ ts) sought place from h =
      rw (ne_eqb place sought (λ e. omega arith)) (
      go (same_bytes t text) (stop-place ts sought (place + 1) (from + length t + 1) (omega arith))
      )
    where
      go : (q : Bool) → place_in (stop_in text sought (place + 1) (from + length t + 1) ts) ≡ later (place + 1) (first_that (length ts) (is_string_at ts text))
          → place_in (cond (q || false) (at_string place from (from + length t)) (stop_in text sought (place + 1) (from + length t + 1) ts))
          ≡ later place (cond q (Some zero) (from_before (first_that (length ts) (is_string_at ts text))))
      go true k = ap Some (omega arith)
      go false k = k ∙ later-next place (first_that (length ts) (is_string_at ts text))

-- a text with a zero byte is none of them: with it a scan counts the strings, and finds the one at a place
none_is : (t : List ℕ) → Each NotZero t → same_bytes t (0 ∷ []) ≡ false
none_is t h = same_false t (0 ∷ []) (go t h)
  where
    go : (t : List ℕ) → Each NotZero t → t ≡ 0 ∷ [] → ⊥
    go [] h e = let z : ◌≡◌ {A = ℕ} 0 1 = ap length e in omega arith
    go (b ∷ bs) h e = h.0 (ap (λ (l : List ℕ). get_or l 0 1) e)

pub stop-count : (ts : List (List ℕ)) → Each (Each NotZero) ts → (sought place from : ℕ) → place + length ts ≤ sought
    → stop_in (0 ∷ []) sought place from ts ≡ Err (place + length ts)
unfolding stop_in
stop-count [] h sought place from l = ap Err (omega arith)
stop-count (t ∷ ts) h sought place from l =
    rw (none_is t h.0, ne_eqb place sought (λ e. omega arith)) (
    stop-count ts h.1 sought (place + 1) (from + length t + 1) (omega arith) ∙ ap Err (omega arith)
    )

pub stop-string : (ts : List (List ℕ)) → Each (Each NotZero) ts → (k place from : ℕ) → k < length ts
    → stop_in (0 ∷ []) (place + k) place from ts
    ≡ at_string (place + k) (from + length (strings_bytes (take k ts))) (from + length (strings_bytes (take k ts)) + length (get_or ts k []))
unfolding stop_in strings_bytes
stop-string [] h k place from l = absurd (omega arith)
stop-string (t ∷ ts) h zero place from l =
    let e : place + 0 ≡ place = omega arith in
    let f : from + 0 ≡ from = omega arith in
    rw (none_is t h.0, e, f, eq-eqb place place refl)
stop-string (t ∷ ts) h (suc k) place from l =
    let e : place + 1 + k ≡ place + suc k = omega arith in
    let n : from + length (t ++ 0 ∷ strings_bytes (take k ts)) ≡ from + length t + 1 + length (strings_bytes (take k ts)) = omega (arith, length-append t (0 ∷ strings_bytes (take k ts))) in
    subst
    (λ (s : ℕ). stop_in (0 ∷ []) s place from (t ∷ ts) ≡ at_string s (from + length (t ++ 0 ∷ strings_bytes (take k ts))) (from + length (t ++ 0 ∷ strings_bytes (take k ts)) + length (get_or ts k [])))
    e
    (rw (none_is t h.0, n, ne_eqb place (place + 1 + k) (λ z. omega arith)) (stop-string ts h.1 k (place + 1) (from + length t + 1) (omega arith)))
