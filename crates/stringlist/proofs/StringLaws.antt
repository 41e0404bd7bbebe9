-- Laws of lists of strings. Assumes nothing.
use mathlib.Core.Path.{◌≡◌, refl, sym, ap, ◌∙◌}
use mathlib.Core.Bool.{Bool, true, false, cond, false≢true}
use mathlib.Core.List.{List, [], ◌∷◌, ◌++◌}
use Prim.Native.Nat.{ℕ, zero, suc, ◌+◌, ◌-◌, ◌≤◌, ◌<◌}
use native.Mathlib.Omega.{arith}
use borrow.Author.Tests.{ne_eqb, eqb-true}
use lib.Dec.{eqb}
use lib.ListN.{length, get_or, take, drop, length-append}
use lib.Seq.{take-append_seam, drop-append-add}
use Rattle.cells.specs.Bytes.{Each}
use Rattle.strings.specs.Strings.{Text, ended, unended, onto, text_of}
use Rattle.stringlist.specs.StringList.{NotZero, strings_bytes, AreStrings, on_first, split_at_zeros, is_whole, strings_in}

-- strings without zero bytes, each with its zero byte, are found again
split-first : (t rest : List ℕ) → Each NotZero t → split_at_zeros (t ++ 0 ∷ rest) ≡ t ∷ split_at_zeros rest
unfolding split_at_zeros
split-first [] rest h = refl
split-first (b ∷ t) rest h = rw (ne_eqb b 0 h.0, split_at_zeros, split-first t rest h.1)

split-joined : (ts : List (List ℕ)) → Each (Each NotZero) ts → split_at_zeros (strings_bytes ts) ≡ ts
unfolding split_at_zeros strings_bytes
split-joined [] h = refl
split-joined (t ∷ ts) h = split-first t (strings_bytes ts) h.0 ∙ ap (λ (l : List (List ℕ)). t ∷ l) (split-joined ts h.1)

-- none of those found has a zero byte, and there are not more than bytes
pub split_plain : (bs : List ℕ) → Each (Each NotZero) (split_at_zeros bs)
unfolding split_at_zeros
split_plain [] = tt
split_plain (b ∷ bs) = go (eqb b 0) refl (split_at_zeros bs) (split_plain bs)
  where
    nonzero : eqb b 0 ≡ false → NotZero b
    nonzero e z = let q : eqb b 0 ≡ true = rw z in absurd (false≢true (sym e ∙ q))

    go : (q : Bool) → eqb b 0 ≡ q → (ts : List (List ℕ)) → Each (Each NotZero) ts → Each (Each NotZero) (cond q ([] ∷ ts) (on_first b ts))
    go true e ts h = (tt, h)
    go false e [] h = tt
    go false e (t ∷ ts) h = ((nonzero e, h.0), h.1)

pub split-few : (bs : List ℕ) → length (split_at_zeros bs) ≤ length bs
unfolding split_at_zeros
split-few [] = omega arith
split-few (b ∷ bs) = go (eqb b 0) (split_at_zeros bs) (split-few bs)
  where
    go : (q : Bool) (ts : List (List ℕ)) → length ts ≤ length bs → length (cond q ([] ∷ ts) (on_first b ts)) ≤ suc (length bs)
    go true ts h = omega arith
    go false [] h = omega arith
    go false (t ∷ ts) h = omega arith

-- the last byte
whole-next : (b c : ℕ) (cs : List ℕ) → is_whole (b ∷ c ∷ cs) ≡ is_whole (c ∷ cs)
unfolding is_whole
whole-next b c cs =
    let e : suc (suc (length cs)) - 1 ≡ suc (length cs) = omega arith in
    let k : suc (length cs) - 1 ≡ length cs = omega arith in
    rw (e, k)

whole_append : (t : List ℕ) (b : ℕ) (bs : List ℕ) → is_whole (t ++ b ∷ bs) ≡ is_whole (b ∷ bs)
whole_append [] b bs = refl
whole_append (a ∷ []) b bs = whole-next a b bs
whole_append (a ∷ c ∷ t) b bs = whole-next a c (t ++ b ∷ bs) ∙ whole_append (c ∷ t) b bs

whole-joined : (ts : List (List ℕ)) → is_whole (strings_bytes ts) ≡ true
unfolding strings_bytes is_whole
whole-joined [] = refl
whole-joined (t ∷ ts) = whole_append t 0 (strings_bytes ts) ∙ go (strings_bytes ts) (whole-joined ts)
  where
    go : (bs : List ℕ) → is_whole bs ≡ true → is_whole (0 ∷ bs) ≡ true
    go [] h = refl
    go (b ∷ bs) h = whole-next 0 b bs ∙ h

-- a list with its last zero byte is made of the strings found
pub whole-bytes : (list : List ℕ) → is_whole list ≡ true → strings_bytes (split_at_zeros list) ≡ list
unfolding strings_bytes split_at_zeros is_whole
whole-bytes [] h = refl
whole-bytes (b ∷ []) h = go (eqb b 0) refl
  where
    go : (q : Bool) → eqb b 0 ≡ q → strings_bytes (cond q ([] ∷ []) []) ≡ b ∷ []
    go true e = ap (λ (x : ℕ). x ∷ []) (sym (eqb-true b 0 e))
    go false e = absurd (false≢true (sym e ∙ h))
whole-bytes (b ∷ c ∷ cs) h = go (eqb b 0) refl (split_at_zeros (c ∷ cs)) (whole-bytes (c ∷ cs) (sym (whole-next b c cs) ∙ h))
  where
    go : (q : Bool) → eqb b 0 ≡ q → (ts : List (List ℕ)) → strings_bytes ts ≡ c ∷ cs → strings_bytes (cond q ([] ∷ ts) (on_first b ts)) ≡ b ∷ c ∷ cs
    go true e ts k = rw k (ap (λ (x : ℕ). x ∷ c ∷ cs) (sym (eqb-true b 0 e)))
    go false e [] k = let z : 0 ≡ suc (length cs) = ap length k in absurd (omega arith)
    go false e (t ∷ ts) k = ap (λ (l : List ℕ). b ∷ l) k

-- the strings of a list are those found, where its last byte is zero; else it has none
pub strings-are : (list : List ℕ) → is_whole list ≡ true → AreStrings list (strings_in list)
unfolding strings_in
strings-are list h = rw h (record { bytes = whole-bytes list h; plain = split_plain list })

pub are-strings : {list : List ℕ} {ts : List (List ℕ)} → AreStrings list ts → (is_whole list ≡ true) × (strings_in list ≡ ts)
unfolding strings_in
are-strings {list} {ts} a =
    let w : is_whole list ≡ true = ap is_whole (sym a.bytes) ∙ whole-joined ts in
    (w, rw w (ap split_at_zeros (sym a.bytes) ∙ split-joined ts a.plain))

pub joined-strings : (ts : List (List ℕ)) → Each (Each NotZero) ts → strings_in (strings_bytes ts) ≡ ts
joined-strings ts h = (are-strings (record { bytes = refl; plain = h })).1

-- the first string of a run of bytes, and those behind it
pub split-ended : (bs cs : List ℕ) → text_of bs ≡ ended cs → split_at_zeros bs ≡ cs ∷ split_at_zeros (drop (suc (length cs)) bs)
unfolding text_of split_at_zeros
split-ended [] cs e = let z : ◌≡◌ {A = ℕ} 0 1 = cc in absurd (omega arith)
split-ended (b ∷ bs) cs e = go (eqb b 0) (text_of bs) (split-ended bs) e
  where
    go : (q : Bool) (t : Text) → ((ds : List ℕ) → t ≡ ended ds → split_at_zeros bs ≡ ds ∷ split_at_zeros (drop (suc (length ds)) bs))
        → (elim q as (λ _. Text) [ true ↦ ended [] | false ↦ onto b t ]) ≡ ended cs
        → cond q ([] ∷ split_at_zeros bs) (on_first b (split_at_zeros bs)) ≡ cs ∷ split_at_zeros (drop (length cs) bs)
    go true t f p = let l : cs ≡ [] = cc in rw l
    go false (ended ds) f p = let l : cs ≡ b ∷ ds = cc in rw (l, f ds refl)
    go false unended f p = let z : ◌≡◌ {A = ℕ} 0 1 = cc in absurd (omega arith)

pub split-unended : (bs : List ℕ) → text_of bs ≡ unended → split_at_zeros bs ≡ []
unfolding text_of split_at_zeros
split-unended [] e = refl
split-unended (b ∷ bs) e = go (eqb b 0) (text_of bs) (split-unended bs) e
  where
    go : (q : Bool) (t : Text) → (t ≡ unended → split_at_zeros bs ≡ [])
        → (elim q as (λ _. Text) [ true ↦ ended [] | false ↦ onto b t ]) ≡ unended
        → cond q ([] ∷ split_at_zeros bs) (on_first b (split_at_zeros bs)) ≡ []
    go true t f p = let z : ◌≡◌ {A = ℕ} 0 1 = cc in absurd (omega arith)
    go false (ended ds) f p = let z : ◌≡◌ {A = ℕ} 0 1 = cc in absurd (omega arith)
    go false unended f p = rw (f refl)

-- the test of the last byte
pub whole-last : (list : List ℕ) → eqb (get_or list (length list - 1) 0) 0 ≡ is_whole list
unfolding is_whole
whole-last list = refl

pub last-cut : (bs : List ℕ) (b : ℕ) → NotZero b → is_whole (bs ++ b ∷ []) ≡ false
unfolding is_whole
last-cut bs b h = whole_append bs b [] ∙ ne_eqb b 0 h

-- the string at a place, as a part of its list
pub string-part : (ts : List (List ℕ)) (k : ℕ) → k < length ts
    → take (length (get_or ts k [])) (drop (length (strings_bytes (take k ts))) (strings_bytes ts)) ≡ get_or ts k []
unfolding strings_bytes
string-part [] k h = absurd (omega arith)
string-part (t ∷ ts) zero h = take-append_seam t (0 ∷ strings_bytes ts)
string-part (t ∷ ts) (suc k) h =
    let n : length (t ++ 0 ∷ strings_bytes (take k ts)) ≡ length t + suc (length (strings_bytes (take k ts))) = length-append t (0 ∷ strings_bytes (take k ts)) in
    rw (n, drop-append-add t (0 ∷ strings_bytes ts) (suc (length (strings_bytes (take k ts))))) (string-part ts k (omega arith))
