-- When a part of a block has exactly some characters: they stand there with a zero byte behind them, and none of them is zero. Assumes nothing.
use mathlib.Core.Path.{◌≡◌, refl, sym, ap, ◌∙◌}
use mathlib.Core.Bool.{Bool, true, false, not, ◌||◌}
use mathlib.Core.List.{List, [], ◌∷◌, ◌++◌}
use Prim.Native.Nat.{ℕ, ◌+◌, ◌-◌, ◌<◌, ◌≤◌, suc, min}
use native.Mathlib.Omega.{arith}
use lib.Dec.{eqb}
use lib.ListN.{length, take, drop, get_or}
use lib.Pointwise.{pointwise}
use lib.Seq.{split_at, take-take}
use Rattle.std.specs.List.{slice_range, list_any}
use Rattle.strings.specs.Strings.{Text, ended, unended, onto, text_of, text_at}
use Rattle.strings.proofs.Strings.{text-none, text-block, text-within, text-zero, text-taken, same-pointwise, same_true, same_refl}
use Rattle.names.specs.Names.{same_text}
use Rattle.names.proofs.Texts.{same-text-true, same-text-equal}
use Rattle.matching.proofs.Bytes.{part-byte}

abbrev zero_byte : ℕ → Bool
zero_byte y = eqb y 0

-- characters of which none is zero, and a zero byte, are a string
string_here : (name rest : List ℕ) → list_any zero_byte name ≡ false → text_of (name ++ 0 ∷ rest) ≡ ended name
unfolding text_of
string_here [] rest h = refl
string_here (c ∷ cs) rest h = go (eqb c 0) refl h (string_here cs rest)
  where
    go : (b : Bool) → eqb c 0 ≡ b → (b || list_any zero_byte cs) ≡ false → (list_any zero_byte cs ≡ false → text_of (cs ++ 0 ∷ rest) ≡ ended cs)
        → (elim b as (λ _. Text) [ true ↦ ended [] | false ↦ onto c (text_of (cs ++ 0 ∷ rest)) ]) ≡ ended (c ∷ cs)
    go true e k f = cc
    go false e k f = ap (onto c) (f k)

-- no character of a string is zero
no_zero : (bs cs : List ℕ) → text_of bs ≡ ended cs → list_any zero_byte cs ≡ false
unfolding text_of
no_zero [] cs e = cc
no_zero (b ∷ bs) cs e = go (eqb b 0) refl (text_of bs) (no_zero bs) e
  where
    go : (q : Bool) → eqb b 0 ≡ q → (t : Text) → ((ds : List ℕ) → t ≡ ended ds → list_any zero_byte ds ≡ false)
        → (elim q as (λ _. Text) [ true ↦ ended [] | false ↦ onto b t ]) ≡ ended cs → list_any zero_byte cs ≡ false
    go true h t f p = let l : cs ≡ [] = cc in rw l
    go false h (ended ds) f p = let l : cs ≡ b ∷ ds = cc in rw (l, h) (f ds refl)
    go false h unended f p = cc

-- a text that has not these characters
pub other_text : (name : List ℕ) (t : Text) → ((cs : List ℕ) → t ≡ ended cs → cs ≡ name → ⊥) → false ≡ same_text t (ended name)
unfolding same_text
other_text name unended f = refl
other_text name (ended cs) f = go (same_text (ended cs) (ended name)) refl
  where
    go : (b : Bool) → same_text (ended cs) (ended name) ≡ b → false ≡ b
    go true e = absurd (f cs refl (same-text-true cs name e))
    go false e = refl

pub no_block : (s : List ℕ) (from end : ℕ) (name : List ℕ) → min (length s) end ≤ from → false ≡ same_text (text_at s from end) (ended name)
unfolding same_text
no_block s from end name h = rw (text-none s end from h)

module _ (s : List ℕ) (from end : ℕ) {stop : ℕ} {block : List ℕ} (name : List ℕ) (m : stop ≡ min end (length s)) (h : from ≤ stop) (b : block ≡ slice_range s from stop)
    (l : length block + from ≡ stop) where
  pub no_room : length block ≤ length name → false ≡ same_text (text_at s from end) (ended name)
  no_room k = other_text name (text_at s from end) (λ cs t e. let w = text-within s from end cs t in let z = ap length e in absurd (omega arith))

  pub no_end : length name < length block → (get_or block (length name) 0 ≡ 0 → ⊥) → false ≡ same_text (text_at s from end) (ended name)
  no_end k z =
      other_text name (text_at s from end) (λ cs t e.
      let place : get_or s (from + length name) 0 ≡ 0 = rw (← e) (text-zero s from end cs t) in
      absurd (z (part-byte s from stop (length name) b (omega arith) ∙ place)))

  pub others : length name < length block → not (pointwise eqb (take (length name) block) name) ≡ true → false ≡ same_text (text_at s from end) (ended name)
  others k d =
      other_text name (text_at s from end) (λ cs t e.
      let front : take (length name) block ≡ take (length name) (drop from s) = rw b (take-take (length name) (stop - from) (drop from s) (omega arith)) in
      let same : take (length name) block ≡ name = front ∙ rw e at (text-taken s from end cs t) in
      let yes : pointwise eqb (take (length name) block) name ≡ true = rw same (same-pointwise name name ∙ same_refl name) in
      let no : not true ≡ true = rw yes at d in
      cc)

  pub spelled : length name < length block → get_or block (length name) 0 ≡ 0 → not (pointwise eqb (take (length name) block) name) ≡ false
      → not (list_any zero_byte name) ≡ same_text (text_at s from end) (ended name)
  spelled k z d = go (list_any zero_byte name) refl
    where
      equal : (t : Bool) → not t ≡ false → t ≡ true
      equal true e = refl
      equal false e = cc

      whole : block ≡ name ++ 0 ∷ drop (suc (length name)) block
      whole =
          let front : take (length name) block ≡ name =
          same_true (take (length name) block) name (sym (same-pointwise (take (length name) block) name) ∙ equal (pointwise eqb (take (length name) block) name) d) in
          split_at block (length name) 0 k ∙ rw (front, z)

      text : text_at s from end ≡ text_of block
      text = text-block s from end (omega arith) ∙ ap text_of (sym (rw m at b))

      go : (t : Bool) → list_any zero_byte name ≡ t → not t ≡ same_text (text_at s from end) (ended name)
      go true e = other_text name (text_at s from end) (λ cs t q. let n = no_zero block cs (sym text ∙ t) in let f : list_any zero_byte name ≡ false = rw q at n in cc)
      go false e = rw (text, whole, string_here name (drop (suc (length name)) block) e) (sym (same-text-equal name name refl))
