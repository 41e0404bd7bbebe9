-- Laws of rows that are filled from the front. Assumes nothing.
use mathlib.Core.Path.{◌≡◌, refl, sym, ap, ◌∙◌}
use mathlib.Core.List.{List, [], ◌∷◌, ◌++◌, append_assoc}
use Prim.Native.Nat.{ℕ, suc, zero, ◌+◌, ◌-◌, ◌<◌, ◌≤◌}
use native.Mathlib.Decide.{dec_lt}
use native.Mathlib.Omega.{arith}
use native.Mathlib.Numerals.{add-one}
use lib.ListN.{get_or, length, set, take, replicate, length-append, length-replicate, get_or-append, get_or-eq_default}
use lib.Seq.{get_or_at, get_or-append-add, set_at, length-take-le, take-suc, take-length}
use Rattle.cells.specs.Rows.{each, padded}

module _ {A : Type 0} where
  pub length-each : (n : ℕ) (f : ℕ → A) → length (each n f) ≡ n
  length-each zero f = refl
  length-each (suc n) f = omega (arith, length-append (each n f) (f n ∷ []), length-each n f)

  -- an element of a row
  pub row-at : (n : ℕ) (f : ℕ → A) (i : ℕ) (d : A) → i < n → get_or (each n f) i d ≡ f i
  row-at zero f i d h = absurd (omega arith)
  row-at (suc n) f i d h = go (dec_lt i n) (row-at n f i d)
    where
      go : Dec (i < n) → (i < n → get_or (each n f) i d ≡ f i) → get_or (each n f ++ (f n ∷ [])) i d ≡ f i
      go (yes l) r = get_or-append (each n f) (f n ∷ []) d i (omega (arith, length-each n f)) ∙ r l
      go (no l) r = let e : n ≡ i = omega arith in get_or_at (each n f) (f n) [] d i (length-each n f ∙ e) ∙ ap f e

  -- a row of a list's elements is the list
  row-take : (d : A) (xs : List A) (f : ℕ → A) → ((i : ℕ) → i < length xs → f i ≡ get_or xs i d) → (n : ℕ) → n ≤ length xs → each n f ≡ take n xs
  row-take d xs f h zero l = refl
  row-take d xs f h (suc n) l = rw (take-suc xs n d (omega arith), row-take d xs f h n (omega arith), h n (omega arith))

  pub each-list : (d : A) (xs : List A) (f : ℕ → A) → ((i : ℕ) → i < length xs → f i ≡ get_or xs i d) → each (length xs) f ≡ xs
  each-list d xs f h = row-take d xs f h (length xs) (omega arith) ∙ take-length xs

  pub length-padded : (m : ℕ) (z : A) (xs : List A) → length xs ≤ m → length (padded m z xs) ≡ m
  length-padded m z xs h = omega (arith, length-append xs (replicate (m - length xs) z), length-replicate (m - length xs) z)

  -- one more
  pub padded-more : (m : ℕ) (z : A) (xs : List A) (x : A) → length xs < m → set (padded m z xs) (length xs) x ≡ padded m z (xs ++ x ∷ [])
  padded-more m z xs x h =
      let e : m - length xs ≡ suc (m - (length xs + 1)) = omega arith in
      let l : length (xs ++ x ∷ []) ≡ length xs + 1 = length-append xs (x ∷ []) in
      rw (e, l)
      (set_at xs z (replicate (m - (length xs + 1)) z) x (length xs) refl
      ∙ sym (append_assoc xs (x ∷ []) (replicate (m - (length xs + 1)) z)))

  pub padded-each : (m : ℕ) (z : A) (f : ℕ → A) (i : ℕ) → i < m → set (padded m z (each i f)) i (f i) ≡ padded m z (each (i + 1) f)
  padded-each m z f i h =
      let k : length (each i f) < m = omega (arith, length-each i f) in
      rw (add-one i) (ap (λ (j : ℕ). set (padded m z (each i f)) j (f i)) (sym (length-each i f)) ∙ padded-more m z (each i f) (f i) k)

  -- one more of a list
  pub padded-take : (m : ℕ) (z : A) (xs : List A) (i : ℕ) → i < m → i < length xs → set (padded m z (take i xs)) i (get_or xs i z) ≡ padded m z (take (i + 1) xs)
  padded-take m z xs i h l =
      let n : length (take i xs) ≡ i = length-take-le i xs (omega arith) in
      let k : length (take i xs) < m = omega arith in
      rw (add-one i, take-suc xs i z l)
      (ap (λ (j : ℕ). set (padded m z (take i xs)) j (get_or xs i z)) (sym n) ∙ padded-more m z (take i xs) (get_or xs i z) k)

  -- behind the list there is only the padding, and so a row has what the list has
  replicate-at : (z : A) (n k : ℕ) → get_or (replicate n z) k z ≡ z
  replicate-at z zero k = refl
  replicate-at z (suc n) zero = refl
  replicate-at z (suc n) (suc k) = replicate-at z n k

  pub padded-behind : (m : ℕ) (z : A) (xs : List A) (i : ℕ) → length xs ≤ i → get_or (padded m z xs) i z ≡ z
  padded-behind m z xs i h =
      let e : i ≡ length xs + (i - length xs) = omega arith in
      ap (λ (x : ℕ). get_or (padded m z xs) x z) e
      ∙ get_or-append-add xs (replicate (m - length xs) z) (i - length xs) z
      ∙ replicate-at z (m - length xs) (i - length xs)

  pub padded-at : (m : ℕ) (z : A) (xs : List A) (i : ℕ) → get_or (padded m z xs) i z ≡ get_or xs i z
  padded-at m z xs i = go (dec_lt i (length xs))
    where
      go : Dec (i < length xs) → get_or (padded m z xs) i z ≡ get_or xs i z
      go (yes h) = get_or-append xs (replicate (m - length xs) z) z i h
      go (no h) = padded-behind m z xs i (omega arith) ∙ sym (get_or-eq_default xs z (omega arith))
