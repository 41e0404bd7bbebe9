-- Laws of a string in a block, character by character, and of equal strings. Assumes nothing.
use mathlib.Core.Path.{◌≡◌, refl, sym, ap, ◌∙◌}
use mathlib.Core.Bool.{Bool, true, false}
use mathlib.Core.List.{List, [], ◌∷◌, ◌++◌, append_assoc}
use Prim.Native.Nat.{ℕ, suc, ◌+◌, ◌<◌, ◌≤◌, min}
use native.Mathlib.Omega.{arith}
use native.Mathlib.Numerals.{add-one}
use borrow.Author.Tests.{eq-eqb, ne_eqb, eqb-true, eqb-false}
use lib.Dec.{eqb}
use lib.ListN.{get_or, length, drop, drop_of_length-le, length-drop}
use lib.Seq.{drop-cons}
use Rattle.strings.specs.Strings.{Text, ended, unended, onto, text_at, same_bytes}
use Rattle.strings.proofs.Strings.{text-none, text-empty, text-more, same_true, same_refl}
use Rattle.names.specs.Names.{same_text}

-- characters in front of a string
abbrev pub prefixed : List ℕ → Text → Text
prefixed cs (ended ds) = ended (cs ++ ds)
prefixed cs unended = unended

pub prefixed-onto : (cs : List ℕ) (c : ℕ) (t : Text) → prefixed cs (onto c t) ≡ prefixed (cs ++ c ∷ []) t
prefixed-onto cs c (ended ds) = ap ended (sym (append_assoc cs (c ∷ []) ds))
prefixed-onto cs c unended = refl

-- the test of two strings says whether their characters are equal
pub same-text-true : (cs ds : List ℕ) → same_text (ended cs) (ended ds) ≡ true → cs ≡ ds
unfolding same_text
same-text-true cs ds e = same_true cs ds e

pub same-text-equal : (cs ds : List ℕ) → cs ≡ ds → same_text (ended cs) (ended ds) ≡ true
unfolding same_text
same-text-equal cs ds e = rw e (same_refl ds)

same-unended : (t : Text) → same_text t unended ≡ false
unfolding same_text
same-unended (ended cs) = refl
same-unended unended = refl

same-onto : (c : ℕ) (t u : Text) → same_text (onto c t) (onto c u) ≡ same_text t u
unfolding same_text same_bytes
same-onto c (ended cs) (ended ds) = rw (eq-eqb c c refl, same_bytes)
same-onto c (ended cs) unended = refl
same-onto c unended u = refl

apart-onto : (c d : ℕ) → (c ≡ d → ⊥) → (t u : Text) → same_text (onto c t) (onto d u) ≡ false
unfolding same_text same_bytes
apart-onto c d h (ended cs) (ended ds) = rw (ne_eqb c d h, same_bytes)
apart-onto c d h (ended cs) unended = refl
apart-onto c d h unended u = refl

empty-onto : (d : ℕ) (u : Text) → same_text (ended []) (onto d u) ≡ false
unfolding same_text same_bytes
empty-onto d (ended ds) = refl
empty-onto d unended = refl

onto-empty : (c : ℕ) (t : Text) → same_text (onto c t) (ended []) ≡ false
unfolding same_text same_bytes
onto-empty c (ended cs) = refl
onto-empty c unended = refl

module _ (s : List ℕ) (end i j : ℕ) where
  pub same-none-left : min (length s) end ≤ i → same_text (text_at s i end) (text_at s j end) ≡ false
  unfolding same_text
  same-none-left h = rw (text-none s end i h)

  pub same-none-right : min (length s) end ≤ j → same_text (text_at s i end) (text_at s j end) ≡ false
  same-none-right h = rw (text-none s end j h) (same-unended (text_at s i end))

  module _ (hi : i < min (length s) end) (hj : j < min (length s) end) where
    pub same_ended : get_or s i 0 ≡ get_or s j 0 → get_or s i 0 ≡ 0 → same_text (text_at s i end) (text_at s j end) ≡ true
    same_ended e z = rw (text-empty s end i hi z, text-empty s end j hj (sym e ∙ z)) (same-text-equal [] [] refl)

    pub same-goes-on : get_or s i 0 ≡ get_or s j 0 → (get_or s i 0 ≡ 0 → ⊥) → same_text (text_at s i end) (text_at s j end) ≡ same_text (text_at s (i + 1) end) (text_at s (j + 1) end)
    same-goes-on e z =
        rw (text-more s end i hi z, text-more s end j hj (λ k. z (e ∙ k)), e)
        (same-onto (get_or s j 0) (text_at s (i + 1) end) (text_at s (j + 1) end))

    pub same-apart : (get_or s i 0 ≡ get_or s j 0 → ⊥) → same_text (text_at s i end) (text_at s j end) ≡ false
    same-apart h = go (eqb (get_or s i 0) 0) (eqb (get_or s j 0) 0) refl refl
      where
        go : (p q : Bool) → eqb (get_or s i 0) 0 ≡ p → eqb (get_or s j 0) 0 ≡ q → same_text (text_at s i end) (text_at s j end) ≡ false
        go true true p q = absurd (h (eqb-true (get_or s i 0) 0 p ∙ sym (eqb-true (get_or s j 0) 0 q)))
        go true false p q =
            rw (text-empty s end i hi (eqb-true (get_or s i 0) 0 p), text-more s end j hj (eqb-false (get_or s j 0) 0 q))
            (empty-onto (get_or s j 0) (text_at s (j + 1) end))
        go false true p q =
            rw (text-more s end i hi (eqb-false (get_or s i 0) 0 p), text-empty s end j hj (eqb-true (get_or s j 0) 0 q))
            (onto-empty (get_or s i 0) (text_at s (i + 1) end))
        go false false p q =
            rw (text-more s end i hi (eqb-false (get_or s i 0) 0 p), text-more s end j hj (eqb-false (get_or s j 0) 0 q))
            (apart-onto (get_or s i 0) (get_or s j 0) h (text_at s (i + 1) end) (text_at s (j + 1) end))

-- a string in a block has the characters of a name from j on
unfoldable pub has_from : List ℕ → ℕ → ℕ → List ℕ → ℕ → Bool
has_from s end i name j = same_text (text_at s i end) (ended (drop j name))

pub has-whole : (s : List ℕ) (end i : ℕ) (name : List ℕ) → has_from s end i name 0 ≡ same_text (text_at s i end) (ended name)
unfolding has_from
has-whole s end i name = refl

module _ (s : List ℕ) (end i : ℕ) (name : List ℕ) (j : ℕ) where
  pub named_none : min (length s) end ≤ i → has_from s end i name j ≡ false
  unfolding has_from same_text
  named_none h = rw (text-none s end i h)

  module _ (h : i < min (length s) end) where
    pub named-ended : get_or s i 0 ≡ 0 → j ≤ length name → has_from s end i name j ≡ eqb j (length name)
    unfolding has_from
    named-ended z l = rw (text-empty s end i h z) (go (drop j name) refl)
      where
        go : (ds : List ℕ) → drop j name ≡ ds → same_text (ended []) (ended ds) ≡ eqb j (length name)
        go [] e =
            let n : j ≡ length name = omega (arith, length-drop j name, ap length e) in
            same-text-equal [] [] refl ∙ sym (eq-eqb j (length name) n)
        go (d ∷ ds) e =
            let n : j ≡ length name → ⊥ = λ q. absurd (omega (arith, length-drop j name, ap length e, q)) in
            empty-onto d (ended ds) ∙ sym (ne_eqb j (length name) n)

    module _ (z : get_or s i 0 ≡ 0 → ⊥) where
      pub named-longer : length name ≤ j → has_from s end i name j ≡ false
      unfolding has_from
      named-longer l = rw (text-more s end i h z, drop_of_length-le name l) (onto-empty (get_or s i 0) (text_at s (i + 1) end))

      pub named-apart : j < length name → (get_or s i 0 ≡ get_or name j 0 → ⊥) → has_from s end i name j ≡ false
      unfolding has_from
      named-apart l d =
          rw (text-more s end i h z, drop-cons name j 0 l)
          (apart-onto (get_or s i 0) (get_or name j 0) d (text_at s (i + 1) end) (ended (drop (suc j) name)))

      pub named-goes-on : j < length name → get_or s i 0 ≡ get_or name j 0
          → has_from s end i name j ≡ has_from s end (i + 1) name (j + 1)
      unfolding has_from
      named-goes-on l e =
          rw (text-more s end i h z, drop-cons name j 0 l, e, add-one j)
          (same-onto (get_or name j 0) (text_at s (i + 1) end) (ended (drop (suc j) name)))
