-- No line of the list of a run of bytes is longer than `longest_line`. Assumes nothing.
use mathlib.Core.Path.{◌≡◌, refl, sym, ap, subst, ◌∙◌}
use mathlib.Core.List.{List, [], ◌∷◌, ◌++◌}
use Prim.Native.Nat.{ℕ, zero, suc, ◌+◌, ◌^◌, ◌<◌, ◌≤◌}
use native.Mathlib.Omega.{arith}
use native.Mathlib.Decide.{dec_lt, ℕ_discrete}
use lib.ListN.{length, get_or, take, drop, length-append}
use lib.Seq.{get_or-drop}
use Rattle.characters.specs.Characters.{bytes}
use Rattle.cells.specs.Cells.{cell_at}
use Rattle.header.specs.Header.{blocks_of}
use Rattle.header.specs.declared.Blocks.{Blocks}
use Rattle.positions.specs.Sets.{room, has, member_count}
use Rattle.positions.proofs.BelowLaws.{count-bound}
use Rattle.record.specs.declared.Record.{Record}
use Rattle.walk.specs.Containers.{container_name}
use Rattle.walk.specs.Faults.{all_tokens}
use Rattle.nodes.specs.Values.{Value, missing, value, value_of, number}
use Rattle.reading.specs.Reading.{read_record}
use Rattle.reading.specs.Accepted.{container_of}
use Rattle.reading.proofs.Ends.{read-number, read-place}
use Rattle.reading.proofs.Dependencies.{read-holds}
use Rattle.listing.specs.Digits.{decimal}
use Rattle.listing.specs.Listing.{enabled_in, words_in, line_end, numbered, worded, head_line, state_text, feature_line, words_line, refused_line, listing, line_at, longest_line}
use Rattle.listing.specs.Parts.{name_in, IsRead}
use Rattle.listing.proofs.DigitLaws.{decimal_most, decimal_short, length_digits}
use Rattle.listing.proofs.TokenLaws.{all-behind, named-all, value-among, IsPart, Named, tokens-named}
use Rattle.listing.proofs.StateLaws.{read-few, feature_fits}
use Rattle.listing.proofs.LineLaws.{refused-lines, lines-count, head-is, feature-is, words-is}

-- every element of a list is a byte
abbrev pub Bytes : List ℕ → Type 0
Bytes xs = (i : ℕ) → get_or xs i 0 < 256

take-bytes : (n : ℕ) (xs : List ℕ) → Bytes xs → Bytes (take n xs)
take-bytes zero xs f i = omega arith
take-bytes (suc n) [] f i = omega arith
take-bytes (suc n) (x ∷ xs) f zero = f 0
take-bytes (suc n) (x ∷ xs) f (suc i) = take-bytes n xs (λ j. f (suc j)) i

drop-bytes : (n : ℕ) (xs : List ℕ) → Bytes xs → Bytes (drop n xs)
drop-bytes n xs f i = let h = f (n + i) in omega (arith, get_or-drop n xs i 0)

part_bytes : {tree v : List ℕ} → Bytes tree → IsPart tree v → Bytes v
part_bytes {tree} f p = subst Bytes (sym p.same) (take-bytes p.many (drop p.from tree) (drop-bytes p.from tree f))

cell-low : (bs : List ℕ) → Bytes bs → cell_at bs 0 < 2 ^ 32
unfolding cell_at
cell-low bs f = omega (arith, f 0, f 1, f 2, f 3)

past : (ls : List (List ℕ)) (k : ℕ) → length ls ≤ k → get_or ls k [] ≡ []
past [] k h = refl
past (l ∷ ls) zero h = absurd (omega arith)
past (l ∷ ls) (suc k) h = past ls k (omega arith)

module _ (tree : List ℕ) (all : Bytes tree) where
  -- the container's `isa` is a cell
  isa-low : (read_record tree).number ≡ 0 → (read_record tree).value.isa < 2 ^ 32
  isa-low z = go (value_of (container_of tree) "isa") refl
    where
      b : Blocks
      b = blocks_of tree

      go : (v : Value) → value_of (container_of tree) "isa" ≡ v → (read_record tree).value.isa < 2 ^ 32
      go missing e = omega (arith, (read-holds tree z).isa, ap number e)
      go (value bs) e =
          let p = value-among (Named tree b) (bytes "isa") (container_of tree).behind
          (named-all (Named tree b) container_name (all_tokens tree)
          (all-behind (Named tree b) (all_tokens tree) (tokens-named tree b b.start)) 0) e in
          omega (arith, (read-holds tree z).isa, ap number e, cell-low bs (part_bytes all p.2))

  -- the lines of an accepted tree
  module _ (z : (read_record tree).number ≡ 0) where
    abbrev r : Record
    r = (read_record tree).value

    read : IsRead tree r
    read = record { accepted = z; same = refl }

    head-short : length (head_line r) ≤ longest_line
    unfolding head_line member_count
    head-short =
        let a = decimal_most 10 r.isa (omega (arith, isa-low z)) (omega (arith, isa-low z)) (omega arith) in
        let b = decimal_most 2 r.count (omega (arith, read-few read)) (omega (arith, read-few read)) (omega arith) in
        let m = count-bound room (has (enabled_in r)) in
        let c = decimal_most 2 (member_count (enabled_in r)) (omega (arith, m)) (omega (arith, m)) (omega arith) in
        omega (
          arith,
          length-append (numbered "isa " r.isa ++ numbered " features " r.count ++ numbered " enabled "
              (member_count (enabled_in r))) line_end,
          length-append (numbered "isa " r.isa ++ numbered " features " r.count) (numbered " enabled " (member_count (enabled_in r))),
          length-append (numbered "isa " r.isa) (numbered " features " r.count),
        )

    feature-short : (i : ℕ) → i < r.count → length (feature_line (name_in tree r) r i) ≤ longest_line
    unfolding feature_line
    feature-short i l =
        let f = feature_fits read i l in
        omega (
          arith,
          length-append (decimal i ++ bytes " " ++ name_in tree r i ++ state_text (name_in tree r) r i) line_end,
          length-append (decimal i ++ bytes " " ++ name_in tree r i) (state_text (name_in tree r) r i),
          length-append (decimal i ++ bytes " ") (name_in tree r i),
          length-append (decimal i) (bytes " "),
        )

    words-short : length (words_line r) ≤ longest_line
    unfolding words_line
    words-short =
        let v = words_in r in
        omega (
          arith,
          length-append (worded "hwcap " 8 v.first ++ worded " " 8 v.second ++ worded " fscr " 16 v.fscr ++ worded " hfscr " 16
              v.hfscr) line_end,
          length-append (worded "hwcap " 8 v.first ++ worded " " 8 v.second ++ worded " fscr " 16 v.fscr)
              (worded " hfscr " 16 v.hfscr),
          length-append (worded "hwcap " 8 v.first ++ worded " " 8 v.second) (worded " fscr " 16 v.fscr),
          length-append (worded "hwcap " 8 v.first) (worded " " 8 v.second),
          length_digits 16 8 v.first,
          length_digits 16 8 v.second,
          length_digits 16 16 v.fscr,
          length_digits 16 16 v.hfscr,
        )

    accepted-short : (k : ℕ) → length (line_at tree k) ≤ longest_line
    unfolding line_at
    accepted-short zero = omega (arith, head-short, ap length (head-is read))
    accepted-short (suc i) = go (dec_lt i r.count) (ℕ_discrete i r.count)
      where
        go : Dec (i < r.count) → Dec (i ≡ r.count) → length (line_at tree (suc i)) ≤ longest_line
        go (yes l) d = omega (arith, feature-short i l, ap length (feature-is read i l))
        go (no l) (yes e) = omega (arith, words-short, ap length (words-is read ∙ ap (λ (k : ℕ). line_at tree (suc k)) (sym e)))
        go (no l) (no e) = omega (arith, ap length (past (listing tree) (suc i) (omega (arith, lines-count read))))

  -- a refused tree's one line
  refused-short : ((read_record tree).number ≡ 0 → ⊥) → length tree < 2 ^ 64 → (k : ℕ) → length (line_at tree k) ≤ longest_line
  unfolding line_at refused_line
  refused-short ne few zero =
      let n = (read_record tree).number in
      let p = (read_record tree).place in
      let a = decimal_most 2 n (omega (arith, read-number tree)) (omega (arith, read-number tree)) (omega arith) in
      let b = decimal_short p (omega (arith, read-place tree)) in
      omega (
        arith,
        ap (λ (ls : List (List ℕ)). length (get_or ls 0 [])) (refused-lines tree ne),
        length-append (numbered "refused " n ++ numbered " at " p) line_end,
        length-append (numbered "refused " n) (numbered " at " p),
      )
  refused-short ne few (suc k) = omega (arith, ap length (past (listing tree) (suc k) (omega (arith, ap length (refused-lines tree ne)))))

  pub longest : length tree < 2 ^ 64 → (k : ℕ) → length (line_at tree k) ≤ longest_line
  longest few k = go (ℕ_discrete (read_record tree).number 0)
    where
      go : Dec ((read_record tree).number ≡ 0) → length (line_at tree k) ≤ longest_line
      go (yes z) = accepted-short z k
      go (no ne) = refused-short ne few k
