-- Laws of names that are put one behind the other, with `>` between them. Assumes nothing.
use mathlib.Core.Path.{◌≡◌, refl, sym, ap, subst, ◌∙◌}
use mathlib.Core.List.{List, [], ◌∷◌, ◌++◌, append_assoc, append-nil, map}
use Prim.Native.Nat.{ℕ, suc, ◌+◌, ◌*◌, ◌<◌, ◌≤◌}
use native.Mathlib.Omega.{arith}
use Rattle.std.specs.Prelude.{EachIndex}
use Rattle.std.proofs.lemmas.List.{take_more, map-append}
use lib.Seq.{take_all}
use lib.ListN.{length, get_or, take, length-append}
use Rattle.listing.specs.Listing.{others, joined}

-- one name more
others-more : (ns : List (List ℕ)) (n : List ℕ) → others (ns ++ (n ∷ [])) ≡ others ns ++ ((62 ∷ []) ++ n)
unfolding others
others-more [] n = append-nil (62 ∷ n)
others-more (m ∷ ns) n =
    ap (λ (l : List ℕ). (62 ∷ []) ++ m ++ l) (others-more ns n)
    ∙ sym (append_assoc ((62 ∷ []) ++ m) (others ns) ((62 ∷ []) ++ n))

pub next-name : (name : ℕ → List ℕ) (xs : List ℕ) (i : ℕ) → i < length xs
    → others (map name (take i xs)) ++ ((62 ∷ []) ++ name (get_or xs i 0)) ≡ others (map name (take (i + 1) xs))
next-name name xs i h = sym (rw (take_more xs i 0 h, map-append) (others-more (map name (take i xs)) (name (get_or xs i 0))))

pub no-others : (name : ℕ → List ℕ) → [] ≡ others (map name [])
unfolding others
no-others name = refl

pub others-low : {n : ℕ} {xs : List ℕ} (x : ℕ) (rest : List ℕ) → xs ≡ x ∷ rest → EachIndex xs (λ j. get_or xs j 0 < n)
    → EachIndex rest (λ j. get_or rest j 0 < n)
others-low {n} x rest e h j l =
    let all = subst (λ (ys : List ℕ). EachIndex ys (λ k. get_or ys k 0 < n)) e h in all (suc j) (omega arith)

-- no names
pub names-none : (name : ℕ → List ℕ) (xs : List ℕ) → length xs ≡ 0 → [] ≡ joined (map name xs)
unfolding joined
names-none name [] h = refl
names-none name (x ∷ xs) h = absurd (omega arith)

-- the first, and all others
pub names-all : (name : ℕ → List ℕ) {xs : List ℕ} (x : ℕ) (rest : List ℕ) (n : ℕ) → xs ≡ x ∷ rest → length rest ≤ n
    → name x ++ others (map name (take n rest)) ≡ joined (map name xs)
unfolding joined
names-all name x rest n e h = rw (e, take_all n rest h)

-- names of at most 63 characters
abbrev pub AllShort : List (List ℕ) → Type 0
AllShort [] = Unit {0}
AllShort (n ∷ ns) = (length n ≤ 63) × AllShort ns

others-short : (ns : List (List ℕ)) → AllShort ns → length (others ns) ≤ 64 * length ns
unfolding others
others-short [] h = omega arith
others-short (n ∷ ns) h = omega (arith, h.0, others-short ns h.1, length-append n (others ns))

pub joined-short : (ns : List (List ℕ)) → AllShort ns → 1 ≤ length ns → length (joined ns) + 1 ≤ 64 * length ns
unfolding joined
joined-short [] h l = absurd (omega arith)
joined-short (n ∷ ns) h l = omega (arith, h.0, others-short ns h.1, length-append n (others ns))
