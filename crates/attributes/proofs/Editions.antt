-- Laws of the bytes that an edition of `ibm,pa-features` knows. Assumes nothing.
use mathlib.Core.Path.{◌≡◌, refl, sym, ap, ◌∙◌}
use mathlib.Core.Bool.{Bool, true, false, cond}
use mathlib.Core.List.{List, []}
use Prim.Native.Nat.{ℕ, ◌-◌, ◌<◌, ◌≤◌, min}
use native.Mathlib.Omega.{arith}
use native.Mathlib.Decide.{ℕ_discrete, dec_lt}
use borrow.Author.Tests.{eq-eqb, ne_eqb}
use lib.Dec.{eqb}
use lib.ListN.{length, take, drop, replicate, length-drop, drop_of_length-le}
use lib.Seq.{take_all, take-length}
use Rattle.cells.specs.Buffer.{written}
use Rattle.cells.specs.Cells.{word_at, cell_at}
use Rattle.cells.proofs.Copying.{written-padded}
use Rattle.attributes.specs.Attributes.{most_bytes, first_later, later_bytes, edition_first, known_bytes, pa_table, no_attributes}
use Rattle.attributes.specs.Parts.{known_count}

-- the later bytes, copied into zeros; and none
pub later-copied : (bytes : List ℕ) → written (replicate (most_bytes - first_later) 0) 0 (take (length bytes - first_later) (drop first_later bytes)) ≡ later_bytes bytes
unfolding later_bytes
later-copied bytes =
    let n : length (drop first_later bytes) ≤ length bytes - first_later = omega (arith, length-drop first_later bytes) in
    rw (take_all (length bytes - first_later) (drop first_later bytes) n) (written-padded (most_bytes - first_later) (drop first_later bytes))

pub later-none : (bytes : List ℕ) → length bytes ≤ first_later → replicate (most_bytes - first_later) 0 ≡ later_bytes bytes
unfolding later_bytes
later-none bytes h = rw (drop_of_length-le bytes h)

-- no bytes say nothing
pub nothing_said : pa_table [] ≡ no_attributes
unfolding pa_table no_attributes later_bytes word_at cell_at
nothing_said = refl

-- bytes in front, and as many of them as there are
in-front : (n : ℕ) (bytes : List ℕ) → take (min (length bytes) n) bytes ≡ take n bytes
in-front n bytes = go (dec_lt n (length bytes))
  where
    go : Dec (n < length bytes) → take (min (length bytes) n) bytes ≡ take n bytes
    go (yes h) = let e : min (length bytes) n ≡ n = omega arith in rw e
    go (no h) =
        let e : min (length bytes) n ≡ length bytes = omega arith in
        rw e (take_all (length bytes) bytes (omega arith) ∙ sym (take_all n bytes (omega arith)))

-- the first edition knows the bytes in front, the later one all
module _ {edition : ℕ} (bytes : List ℕ) where
  pub known-first : edition ≡ edition_first → known_bytes edition bytes ≡ take first_later bytes
  unfolding known_bytes
  known-first e = rw (eq-eqb edition edition_first e)

  pub known-later : (edition ≡ edition_first → ⊥) → known_bytes edition bytes ≡ bytes
  unfolding known_bytes
  known-later e = rw (ne_eqb edition edition_first e)

-- as many of them as there are
module _ (edition : ℕ) (bytes : List ℕ) where
  pub known-counted : take (known_count edition (length bytes)) bytes ≡ known_bytes edition bytes
  unfolding known_count
  known-counted = go (ℕ_discrete edition edition_first)
    where
      go : Dec (edition ≡ edition_first) → take (cond (eqb edition edition_first) (min (length bytes) first_later) (length bytes)) bytes ≡ known_bytes edition bytes
      go (yes e) = rw (eq-eqb edition edition_first e) (in-front first_later bytes ∙ sym (known-first bytes e))
      go (no e) = rw (ne_eqb edition edition_first e) (take-length bytes ∙ sym (known-later bytes e))

  pub known-within : known_count edition (length bytes) ≤ length bytes
  unfolding known_count
  known-within = go (eqb edition edition_first)
    where
      go : (b : Bool) → cond b (min (length bytes) first_later) (length bytes) ≤ length bytes
      go true = omega arith
      go false = omega arith

-- of no bytes, no edition knows any
pub nothing_known : (edition : ℕ) → pa_table (known_bytes edition []) ≡ no_attributes
nothing_known edition = go (ℕ_discrete edition edition_first)
  where
    go : Dec (edition ≡ edition_first) → pa_table (known_bytes edition []) ≡ no_attributes
    go (yes e) = ap pa_table (known-first [] e) ∙ nothing_said
    go (no e) = ap pa_table (known-later [] e) ∙ nothing_said
