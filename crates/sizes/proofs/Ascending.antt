-- Laws of reading sizes by a rule, cell by cell: what is left decides the whole. Assumes nothing.
use mathlib.Core.Path.{◌≡◌, refl, sym, ap, ◌∙◌}
use mathlib.Core.Bool.{not}
use mathlib.Core.List.{List, [], ◌∷◌, ◌++◌, map}
use Prim.Native.Nat.{ℕ, suc, ◌+◌, ◌*◌, ◌/◌, ◌%◌, ◌<◌, ◌≤◌}
use native.Mathlib.Decide.{dec_lt}
use native.Mathlib.Omega.{arith}
use native.Mathlib.Numerals.{add-one}
use lib.Dec.{T, ltb}
use lib.ListN.{length, get_or, set, take, drop, replicate}
use lib.Seq.{drop-cons, drop-length, take-length}
use Rattle.std.specs.Prelude.{Option, Some, None}
use Rattle.refusal.specs.Refusal.{Outcome, answer, refuse}
use Rattle.refusal.specs.Checks.{Check, check, first_fault}
use Rattle.refusal.proofs.Checks.{holds_on, stops, passes, tests}
use Rattle.cells.specs.Cells.{cell_at, cells_in}
use Rattle.cells.specs.Rows.{padded}
use Rattle.cells.proofs.Rows.{row-at, padded-take}
use Rattle.cells.proofs.CellRows.{count-cells}
use Rattle.sizes.specs.Sizes.{exponents_in, ascends, place_checks, plain_checks, size_checks, no_sizes, size_table, sizes, most_sizes, largest_exponent}
use Rattle.sizes.specs.declared.SizeTable.{SizeTable}

-- the least exponent that may follow the last size
abbrev pub above : Option ℕ → ℕ
above None = 0
above (Some e) = e + 1

not-less : (last : Option ℕ) (e : ℕ) → above last ≤ e → T (ascends last e)
unfolding ascends
not-less None e h = tt
not-less (Some l) e h = omega (arith, tests)

less : (last : Option ℕ) (e : ℕ) → e < above last → T (not (ascends last e))
unfolding ascends
less None e h = absurd (omega arith)
less (Some l) e h = omega (arith, tests)

module _ (rule : ℕ → Option ℕ) (value : List ℕ) where
  abbrev whole : Outcome SizeTable
  whole = answer (size_table (cells_in value))

  -- the exponents from a place on
  abbrev pub exponents_from : ℕ → List ℕ
  exponents_from i = exponents_in (map rule (drop i (cells_in value)))

  abbrev pub last_check : List (Check ℕ)
  last_check = check (ltb 0 (length (exponents_from 0))) 11 ∷ []

  -- i of the n cells are read
  pub record Read (n : ℕ) (exponents : List ℕ) (least i : ℕ) : Type 0 where
    pub within : i ≤ n
    pub few : n ≤ most_sizes
    pub counted : n ≡ length (cells_in value)
    pub row : exponents ≡ padded most_sizes 0 (take i (cells_in value))
    pub last : Option ℕ
    pub floor : least ≡ above last
    pub rest : first_fault (refuse no_sizes) (place_checks last (map rule (drop i (cells_in value))) ++ last_check) whole ≡ sizes rule value
    pub none : least ≡ 0 → length (exponents_from 0) ≡ length (exponents_from i)
    pub some : 0 < least → 0 < length (exponents_from 0)

  pub read_none : 0 < length value → length value % 4 ≡ 0 → length value / 4 ≤ most_sizes → Read (length value / 4) (replicate most_sizes 0) 0 0
  unfolding sizes size_checks plain_checks
  read_none a b c = record {
    within = omega arith;
    few = c;
    counted = sym (count-cells value);
    row = refl;
    last = None;
    floor = refl;
    rest =
        sym (holds_on (refuse no_sizes) _ _ whole (omega (arith, tests))
        ∙ holds_on (refuse no_sizes) _ _ whole (omega (arith, tests))
        ∙ holds_on (refuse no_sizes) _ _ whole (omega (arith, tests, count-cells value)));
    none = λ z. refl;
    some = λ z. absurd (omega arith);
  }

module _ {rule : ℕ → Option ℕ} {value : List ℕ} {n : ℕ} {exponents : List ℕ} {least i : ℕ} (g : Read rule value n exponents least i) where
  -- after the last cell
  ended : n ≤ i → drop i (cells_in value) ≡ []
  ended h = let e : i ≡ length (cells_in value) = omega (arith, g.within, g.counted) in rw e (drop-length (cells_in value))

  pub read_all : n ≤ i → 0 < least → answer (record { count = n; exponents = exponents }) ≡ sizes rule value
  unfolding place_checks first_fault size_table
  read_all h l =
      let e : i ≡ length (cells_in value) = omega (arith, g.within, g.counted) in
      let r = rw (ended h) at g.rest in
      let m : 0 < length (exponents_from rule value 0) = g.some l in
      let t = sym (passes (refuse no_sizes) (last_check rule value) (whole rule value) (omega (arith, tests), tt)) ∙ r in
      rw (g.row, e, g.counted, take-length (cells_in value)) t

  pub read-gaps : n ≤ i → least ≡ 0 → refuse no_sizes 11 ≡ sizes rule value
  unfolding place_checks first_fault
  read-gaps h l =
      let r = rw (ended h) at g.rest in
      let z : length (exponents_from rule value 0) ≡ 0 = rw (ended h) at (g.none l) in
      sym (stops (refuse no_sizes) 0 0 (last_check rule value) (whole rule value) (omega (arith, tests))) ∙ r

  module _ (h : i < n) {x : ℕ} (e : x ≡ cell_at value (4 * i)) where
    at-cell : get_or (cells_in value) i 0 ≡ x
    at-cell =
        let l : i < length value / 4 = omega (arith, g.counted, count-cells value) in
        row-at (length value / 4) (λ (j : ℕ). cell_at value (4 * j)) i 0 l ∙ sym e

    here : drop i (cells_in value) ≡ x ∷ drop (suc i) (cells_in value)
    here = drop-cons (cells_in value) i 0 (omega (arith, g.counted)) ∙ ap (λ (c : ℕ). c ∷ drop (suc i) (cells_in value)) at-cell

    row_next : set exponents i x ≡ padded most_sizes 0 (take (i + 1) (cells_in value))
    row_next =
        rw g.row
        (ap (set (padded most_sizes 0 (take i (cells_in value))) i) (sym at-cell)
        ∙ padded-take most_sizes 0 (cells_in value) i (omega (arith, g.few)) (omega (arith, g.counted)))

    pub read-gap : rule x ≡ None → Read rule value n (set exponents i x) least (i + 1)
    unfolding place_checks
    read-gap s = record {
      within = omega arith;
      few = g.few;
      counted = g.counted;
      row = row_next;
      last = g.last;
      floor = g.floor;
      rest = rw (add-one i) (rw (here, s) at g.rest);
      none = λ z. rw (add-one i) (rw (here, s) at (g.none z));
      some = g.some;
    }

    module _ {size : ℕ} (s : rule x ≡ Some size) where
      pub read-large : largest_exponent < size → refuse no_sizes 12 ≡ sizes rule value
      unfolding place_checks
      read-large l = sym (stops (refuse no_sizes) 0 0 _ (whole rule value) (omega (arith, tests))) ∙ (rw (here, s) at g.rest)

      pub read-falls : size ≤ largest_exponent → size < least → refuse no_sizes 19 ≡ sizes rule value
      unfolding place_checks
      read-falls l f =
          sym (stops (refuse no_sizes) 0 1 _ (whole rule value) (omega (arith, tests), less g.last size (rw g.floor at f)))
          ∙ (rw (here, s) at g.rest)

      pub read-size : size ≤ largest_exponent → least ≤ size → Read rule value n (set exponents i x) (size + 1) (i + 1)
      unfolding place_checks
      read-size l f = record {
        within = omega arith;
        few = g.few;
        counted = g.counted;
        row = row_next;
        last = Some size;
        floor = refl;
        rest =
            rw (add-one i)
            (sym (holds_on (refuse no_sizes) _ _ (whole rule value) (omega (arith, tests))
            ∙ holds_on (refuse no_sizes) _ _ (whole rule value) (not-less g.last size (rw g.floor at f)))
            ∙ (rw (here, s) at g.rest));
        none = λ z. absurd (omega arith);
        some = λ z. sized (dec_lt 0 least);
      }
        where
          sized : Dec (0 < least) → 0 < length (exponents_from rule value 0)
          sized (yes z) = g.some z
          sized (no z) = let e = rw (here, s) at (g.none (omega arith)) in omega arith
