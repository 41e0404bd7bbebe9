-- The checks and the slots of some features' dependencies, feature by feature. Assumes nothing.
use mathlib.Core.Path.{◌≡◌, refl, sym, ap, ap₂, ◌∙◌}
use mathlib.Core.Bool.{true}
use mathlib.Core.List.{List, [], ◌∷◌, ◌++◌, append-nil, append_assoc}
use Prim.Native.Nat.{ℕ, zero, suc, ◌+◌, ◌-◌, ◌*◌, ◌<◌, ◌≤◌}
use native.Mathlib.Omega.{arith}
use lib.ListN.{length, get_or, take, replicate, length-append, replicate-append-replicate, get_or-append}
use lib.Seq.{get_or-append-add}
use Rattle.cells.specs.Rows.{padded}
use Rattle.cells.proofs.Rows.{length-padded}
use Rattle.refusal.specs.Refusal.{Fault}
use Rattle.refusal.specs.Checks.{Check}
use Rattle.positions.specs.Below.{is_somewhere}
use Rattle.record.specs.Record.{most_dependencies}
use Rattle.nodes.specs.Nodes.{Node, node_at}
use Rattle.reading.specs.Dependencies.{carrier, cell_checks, carrier_checks, found, followed_by, slot_row, slots_of}
use Rattle.reading.specs.Accepted.{dependencies_of}
use Rattle.reading.specs.Ends.{AllHold, FirstFailing}
use Rattle.reading.proofs.CheckLaws.{hold-both, fail-left, fail-right}
use Rattle.reading.proofs.Resolutions.{Carriers, carriers-length, carriers-hold, carriers-found, all-somewhere}

-- one more node
pub take-node : (ns : List Node) (i : ℕ) → i < length ns → take (suc i) ns ≡ take i ns ++ node_at ns i ∷ []
unfolding node_at
take-node [] i h = absurd (omega arith)
take-node (n ∷ ns) zero h = refl
take-node (n ∷ ns) (suc i) h = ap (λ (l : List Node). n ∷ l) (take-node ns i (omega arith))

-- padding inside a row does not show
pub pad-inside : (m k : ℕ) (xs ys : List ℕ) → length ys ≤ k → length xs + k ≤ m → padded m 0 (xs ++ ys) ≡ padded m 0 (xs ++ padded k 0 ys)
pad-inside m k xs ys h l =
    let rest = m - length (xs ++ padded k 0 ys) in
    let e : m - length (xs ++ ys) ≡ (k - length ys) + rest =
    omega (arith, length-append xs ys, length-append xs (padded k 0 ys), length-padded k 0 ys h) in
    ap (λ (x : ℕ). (xs ++ ys) ++ replicate x 0) e
    ∙ ap (λ (l : List ℕ). (xs ++ ys) ++ l) (sym (replicate-append-replicate (k - length ys) rest 0))
    ∙ simp append_assoc

module _ (nodes : List Node) where
  -- their checks
  abbrev checks : Node → List (Check Fault)
  checks n = cell_checks n.at nodes (dependencies_of n)

  checks-at : (xs : List Node) (n : Node) (ys : List Node)
      → carrier_checks nodes (xs ++ n ∷ ys) ≡ carrier_checks nodes xs ++ (checks n ++ carrier_checks nodes ys)
  unfolding carrier_checks
  checks-at [] n ys = refl
  checks-at (x ∷ xs) n ys =
      ap (λ (l : List (Check Fault)). checks x ++ l) (checks-at xs n ys)
      ∙ sym (append_assoc (checks x) (carrier_checks nodes xs) (checks n ++ carrier_checks nodes ys))

  pub fail-at : (xs : List Node) (n : Node) (ys : List Node) {k p : ℕ} → AllHold (carrier_checks nodes xs) → FirstFailing (checks n) k p
      → FirstFailing (carrier_checks nodes (xs ++ n ∷ ys)) k p
  fail-at xs n ys h f =
      let rest = carrier_checks nodes ys in
      rw (checks-at xs n ys) (fail-right (carrier_checks nodes xs) (checks n ++ rest) h (fail-left (checks n) rest f))

  -- their slots, a row for each: the positions of its carriers, and then zeros
  pub data Rows : List Node → List ℕ → Type 0 where
    no_rows : Rows [] []
    next_row : {n : Node} {ns : List Node} {ks slots : List ℕ} → length (dependencies_of n) ≤ most_dependencies → Carriers nodes (dependencies_of n) ks → Rows ns slots
        → Rows (n ∷ ns) (padded most_dependencies 0 ks ++ slots)

  pub rows_more : {xs : List Node} {slots : List ℕ} (n : Node) {ks : List ℕ} → Rows xs slots → length (dependencies_of n) ≤ most_dependencies
      → Carriers nodes (dependencies_of n) ks → Rows (xs ++ n ∷ []) (slots ++ padded most_dependencies 0 ks)
  rows_more n {ks = ks} no_rows few c = rw (← (append-nil (padded most_dependencies 0 ks))) (next_row few c no_rows)
  rows_more n {ks = ks} (next_row {ks = is} {slots = slots} f d r) few c =
      rw (append_assoc (padded most_dependencies 0 is) slots (padded most_dependencies 0 ks)) (next_row f d (rows_more n r few c))

  pub rows-found : {ns : List Node} {slots : List ℕ} → Rows ns slots → slots_of nodes ns ≡ found slots
  unfolding slots_of
  rows-found no_rows = refl
  rows-found (next_row f c r) = ap₂ followed_by (ap slot_row (carriers-found nodes c)) (rows-found r)

  pub rows-hold : {ns : List Node} {slots : List ℕ} → Rows ns slots → AllHold (carrier_checks nodes ns)
  unfolding carrier_checks
  rows-hold no_rows = tt
  rows-hold (next_row {n = n} {ns = ns} f c r) = hold-both (checks n) (carrier_checks nodes ns) (carriers-hold nodes c n.at) (rows-hold r)

  pub all-rows : (ns : List Node) → ((i : ℕ) → i < length ns → length (dependencies_of (node_at ns i)) ≤ most_dependencies)
      → ((i j : ℕ) → i < length ns → j < length (dependencies_of (node_at ns i)) → is_somewhere (carrier nodes (get_or (dependencies_of (node_at ns i)) j 0)) ≡ true)
      → (slots : List ℕ) × Rows ns slots
  unfolding node_at
  all-rows [] few h = ([], no_rows)
  all-rows (n ∷ ns) few h =
      let c = all-somewhere nodes (dependencies_of n) (λ j l. h 0 j (omega arith) l) in
      let r = all-rows ns (λ i l. few (suc i) (omega arith)) (λ i j l m. h (suc i) j (omega arith) m) in
      (padded most_dependencies 0 c.0 ++ r.0, next_row (few 0 (omega arith)) c.1 r.1)

  row-length : {ps ks : List ℕ} → length ps ≤ most_dependencies → Carriers nodes ps ks → length (padded most_dependencies 0 ks) ≡ most_dependencies
  row-length {ks = ks} few c = length-padded most_dependencies 0 ks (omega (arith, carriers-length nodes c))

  pub rows-length : {ns : List Node} {slots : List ℕ} → Rows ns slots → length slots ≡ most_dependencies * length ns
  rows-length no_rows = refl
  rows-length (next_row {ks = ks} {slots = slots} f c r) = omega (arith, length-append (padded most_dependencies 0 ks) slots, row-length f c, rows-length r)

  -- the row of one of them
  pub record RowAt (n : Node) (i : ℕ) (slots : List ℕ) : Type 0 where
    pub few : length (dependencies_of n) ≤ most_dependencies
    pub positions : List ℕ
    pub carriers : Carriers nodes (dependencies_of n) positions
    pub slot : (j : ℕ) → j < most_dependencies → get_or slots (most_dependencies * i + j) 0 ≡ get_or (padded most_dependencies 0 positions) j 0

  pub row-at : {ns : List Node} {slots : List ℕ} (rest : List ℕ) → Rows ns slots → (i : ℕ) → i < length ns → RowAt (node_at ns i) i (slots ++ rest)
  unfolding node_at
  row-at rest no_rows i h = absurd (omega arith)
  row-at rest (next_row {ks = ks} {slots = slots} f c r) zero h = record {
    few = f;
    positions = ks;
    carriers = c;
    slot = λ j l.
        let row = padded most_dependencies 0 ks in
        let k : j < length row = omega (arith, row-length f c) in
        let e : most_dependencies * 0 + j ≡ j = omega arith in
        ap (λ (x : ℕ). get_or ((row ++ slots) ++ rest) x 0) e
        ∙ ap (λ (xs : List ℕ). get_or xs j 0) (append_assoc row slots rest)
        ∙ get_or-append row (slots ++ rest) 0 j k;
  }
  row-at rest (next_row {ks = ks} {slots = slots} f c r) (suc i) h =
      let next = row-at rest r i (omega arith) in
      record {
        few = next.few;
        positions = next.positions;
        carriers = next.carriers;
        slot = λ j l.
            let row = padded most_dependencies 0 ks in
            let e : most_dependencies * suc i + j ≡ length row + (most_dependencies * i + j) = omega (arith, row-length f c) in
            ap (λ (x : ℕ). get_or ((row ++ slots) ++ rest) x 0) e
            ∙ ap (λ (xs : List ℕ). get_or xs (length row + (most_dependencies * i + j)) 0) (append_assoc row slots rest)
            ∙ get_or-append-add row (slots ++ rest) (most_dependencies * i + j) 0
            ∙ next.slot j l;
      }
