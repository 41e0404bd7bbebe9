-- Laws of what holds of each element of a list. Assumes nothing.
use mathlib.Core.Path.{◌≡◌, subst}
use mathlib.Core.List.{List, [], ◌∷◌, ◌++◌, map}
use Prim.Native.Nat.{ℕ, zero, suc, ◌<◌}
use native.Mathlib.Omega.{arith}
use native.Mathlib.Decide.{dec_lt}
use lib.ListN.{length, take, drop, get_or}
use Rattle.cells.specs.Bytes.{Each}
use Rattle.cells.specs.Rows.{each}

module _ {A : Type 0} (P : A → Type 0) where
  pub each_append : (xs ys : List A) → Each P xs → Each P ys → Each P (xs ++ ys)
  each_append [] ys h k = k
  each_append (x ∷ xs) ys h k = (h.0, each_append xs ys h.1 k)

  pub each_first : (xs ys : List A) → Each P (xs ++ ys) → Each P xs
  each_first [] ys h = tt
  each_first (x ∷ xs) ys h = (h.0, each_first xs ys h.1)

  pub each_next : (xs ys : List A) → Each P (xs ++ ys) → Each P ys
  each_next [] ys h = h
  each_next (x ∷ xs) ys h = each_next xs ys h.1

  pub each_take : (n : ℕ) (xs : List A) → Each P xs → Each P (take n xs)
  each_take zero xs h = tt
  each_take (suc n) [] h = tt
  each_take (suc n) (x ∷ xs) h = (h.0, each_take n xs h.1)

  pub each-drop : (n : ℕ) (xs : List A) → Each P xs → Each P (drop n xs)
  each-drop zero xs h = h
  each-drop (suc n) [] h = tt
  each-drop (suc n) (x ∷ xs) h = each-drop n xs h.1

  -- by places
  pub each_at : (d : A) (xs : List A) → ((i : ℕ) → i < length xs → P (get_or xs i d)) → Each P xs
  each_at d [] h = tt
  each_at d (x ∷ xs) h = (h 0 (omega arith), each_at d xs (λ i k. h (suc i) (omega arith)))

  pub each-get : (d : A) (xs : List A) → Each P xs → (i : ℕ) → i < length xs → P (get_or xs i d)
  each-get d [] h i k = absurd (omega arith)
  each-get d (x ∷ xs) h zero k = h.0
  each-get d (x ∷ xs) h (suc i) k = each-get d xs h.1 i (omega arith)

  -- a row
  pub each_row : (n : ℕ) (f : ℕ → A) → ((i : ℕ) → i < n → P (f i)) → Each P (each n f)
  each_row zero f h = tt
  each_row (suc n) f h = each_append (each n f) (f n ∷ []) (each_row n f (λ i k. h i (omega arith))) (h n (omega arith), tt)

  pub each-in-row : (n : ℕ) (f : ℕ → A) → Each P (each n f) → (i : ℕ) → i < n → P (f i)
  each-in-row zero f h i k = absurd (omega arith)
  each-in-row (suc n) f h i k = go (dec_lt i n) (each-in-row n f (each_first (each n f) (f n ∷ []) h) i)
    where
      go : Dec (i < n) → (i < n → P (f i)) → P (f i)
      go (yes l) r = r l
      go (no l) r = let e : n ≡ i = omega arith in subst (λ (j : ℕ). P (f j)) e (each_next (each n f) (f n ∷ []) h).0

pub each-implies : {A : Type 0} (P Q : A → Type 0) → ((x : A) → P x → Q x) → (xs : List A) → Each P xs → Each Q xs
each-implies P Q f [] h = tt
each-implies P Q f (x ∷ xs) h = (f x h.0, each-implies P Q f xs h.1)

module _ {A B : Type 0} where
  pub each_map : (P : A → Type 0) (Q : B → Type 0) (f : A → B) → ((x : A) → P x → Q (f x)) → (xs : List A) → Each P xs → Each Q (map f xs)
  each_map P Q f g [] h = tt
  each_map P Q f g (x ∷ xs) h = (g x h.0, each_map P Q f g xs h.1)
