-- The search for the first position that is the same as an earlier one, row by row. Assumes nothing.
use mathlib.Core.Path.{◌≡◌, refl, sym, ◌∙◌}
use mathlib.Core.Bool.{Bool, true, false}
use mathlib.Core.List.{List}
use Prim.Native.Nat.{ℕ, ◌+◌, ◌<◌, ◌≤◌}
use native.Mathlib.Omega.{arith}
use native.Mathlib.Decide.{dec_lt}
use lib.ListN.{get_or, take}
use lib.Seq.{get_or-take}
use Rattle.std.specs.Prelude.{Option, None, Some}
use Rattle.strings.specs.Strings.{text_at}
use Rattle.names.specs.Names.{same_text}
use Rattle.nodes.specs.declared.NodePlace.{NodePlace}
use Rattle.positions.specs.Below.{some}
use Rattle.positions.proofs.BelowLaws.{no_way, some_at, some_is}
use Rattle.positions.proofs.FirstLaws.{IsFirst, first-that, first-is}
use Rattle.nodes.specs.Places.{no_place, same_names, first_repeated}
use Rattle.nodes.specs.Parts.{FirstRepeated}

-- the test of two names, as the code makes it
module _ (tree : List ℕ) (stop : ℕ) (ps : List NodePlace) {i j n : ℕ} (h : i < n) (k : j < i) where
  pub same-is : {r : Bool} → r ≡ same_text (text_at tree (get_or (take i ps) j no_place).name stop) (text_at tree (get_or (take n ps) i no_place).name stop)
      → same_names tree stop ps i j ≡ r
  unfolding same_names
  same-is e = sym (e ∙ rw (get_or-take i ps j no_place k, get_or-take n ps i no_place h))

-- some position passes a test, or none
none_pass : (n : ℕ) (p : ℕ → Bool) → ((j : ℕ) → j < n → p j ≡ false) → some n p ≡ false
none_pass n p h = go (some n p) refl
  where
    go : (s : Bool) → some n p ≡ s → s ≡ false
    go true e = let j = some_is n p e in no_way (p j.0) j.2 (h j.0 j.1)
    go false e = refl

none_passes : (n : ℕ) (p : ℕ → Bool) → some n p ≡ false → (j : ℕ) → j < n → p j ≡ false
none_passes n p h j l = go (p j) refl
  where
    go : (s : Bool) → p j ≡ s → s ≡ false
    go true e = no_way (some n p) (some_at n p j l e) h
    go false e = refl

module _ (same : ℕ → ℕ → Bool) (n : ℕ) where
  -- what the definition says, both ways
  first-repeats : (r : Option ℕ) → IsFirst n (λ (i : ℕ). some i (same i)) r → FirstRepeated same n r
  first-repeats None f = λ i j l k. none_passes i (same i) (f i l) j k
  first-repeats (Some r) f =
      let j = some_is r (same r) f.1 in
      (f.0, λ i k l m. none_passes i (same i) (f.2 i l) k m, (j.0, (j.1, j.2)))

  repeats-first : (r : Option ℕ) → FirstRepeated same n r → IsFirst n (λ (i : ℕ). some i (same i)) r
  repeats-first None f = λ i l. none_pass i (same i) (λ j k. f i j l k)
  repeats-first (Some r) f =
      let j = f.2 in
      (f.0, some_at r (same r) j.0 j.1.0 j.1.1, λ i l. none_pass i (same i) (λ k m. f.1 i k l m))

  pub is-repeated : FirstRepeated same n (first_repeated same n)
  unfolding first_repeated
  is-repeated = first-repeats (first_repeated same n) (first-that n (λ (i : ℕ). some i (same i)))

  repeated-is : (r : Option ℕ) → FirstRepeated same n r → r ≡ first_repeated same n
  unfolding first_repeated
  repeated-is r f = first-is n (λ (i : ℕ). some i (same i)) (repeats-first r f)

  -- no position below i is the same as an earlier one
  pub record Searched (i : ℕ) : Type 0 where
    pub low : i ≤ n
    pub before : (k j : ℕ) → k < i → j < k → same k j ≡ false

  -- nor is i the same as one below j
  pub record Compared (i j : ℕ) : Type 0 where
    pub row : i < n
    pub low : j ≤ i
    pub before : (k j : ℕ) → k < i → j < k → same k j ≡ false
    pub other : (k : ℕ) → k < j → same i k ≡ false

  pub row_more : {i j : ℕ} → Compared i j → j < i → same i j ≡ false → Compared i (j + 1)
  row_more {i} {j} c h e = record { row = c.row; low = omega arith; before = c.before; other = λ k l. go k l (dec_lt k j) }
    where
      go : (k : ℕ) → k < j + 1 → Dec (k < j) → same i k ≡ false
      go k l (yes m) = c.other k m
      go k l (no m) = let q : k ≡ j = omega arith in rw q e

  pub search-found : {i : ℕ} (j : ℕ) → Compared i j → j < i → same i j ≡ true → Some i ≡ first_repeated same n
  search-found {i} j c h e = repeated-is (Some i) (c.row, c.before, (j, (h, e)))

  pub search-none : {i : ℕ} → Searched i → n ≤ i → None ≡ first_repeated same n
  search-none s h = repeated-is None (λ k j l m. s.before k j (omega arith) m)
