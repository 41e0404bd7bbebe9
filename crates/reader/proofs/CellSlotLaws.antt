-- The slots of one feature's dependencies, cell by cell. Assumes nothing.
use mathlib.Core.Path.{◌≡◌, refl, sym, ap, ◌∙◌}
use mathlib.Core.List.{List, [], ◌∷◌, ◌++◌, append-nil, append_assoc}
use Prim.Native.Nat.{ℕ, suc, ◌+◌, ◌*◌, ◌/◌, ◌<◌, ◌≤◌}
use native.Mathlib.Omega.{arith}
use native.Mathlib.Numerals.{add-one}
use lib.ListN.{length, get_or, take, drop, set, length-append}
use lib.Seq.{length-take-le, take_all, take-suc, split_at}
use Rattle.cells.specs.Cells.{cell_at}
use Rattle.cells.specs.Rows.{padded}
use Rattle.cells.proofs.Rows.{padded-more}
use Rattle.std.specs.Prelude.{Option, None, Some, Result, Ok, Err}
use Rattle.refusal.specs.declared.Refusal.{Refusal}
use Rattle.refusal.specs.declared.Refusal.TheVariants.{UnknownPhandle}
use Rattle.positions.proofs.FirstLaws.{IsFirst}
use Rattle.record.specs.Record.{slot_count}
use Rattle.nodes.specs.Nodes.{Node}
use Rattle.nodes.specs.Values.{Value, missing, cells_of}
use Rattle.nodes.specs.Parts.{Lies}
use Rattle.reading.specs.Dependencies.{unknown, positions_of}
use Rattle.reading.proofs.Resolutions.{Carriers, no_carriers, carriers-length, carriers-more, carriers-found, unknown-behind}
use Rattle.feature.specs.Phandles.{is_at}
use Rattle.reader.specs.Parts.{ArePhandles, CellsLie, FilledBy, Resolves, ResolvesCells}
use Rattle.reader.proofs.CellPlaceLaws.{cells-lie}
use Rattle.reader.proofs.PropertyLaws.{count as count_of}
use Rattle.reader.proofs.PhandleLaws.{carrier-is}

-- one more slot
slot-more : {slots : List ℕ} (xs ys : List ℕ) (at k : ℕ) → slots ≡ padded slot_count 0 (xs ++ ys)
    → length xs + length ys ≡ at → at < slot_count → set slots at k ≡ padded slot_count 0 (xs ++ (ys ++ k ∷ []))
slot-more {slots} xs ys at k e z h =
    let m : length (xs ++ ys) ≡ at = length-append xs ys ∙ z in
    rw (e, ← m)
    (padded-more slot_count 0 (xs ++ ys) k (omega arith) ∙ ap (λ (l : List ℕ). padded slot_count 0 l) (append_assoc xs ys (k ∷ [])))

-- the slots behind others, filled by the positions of some phandles' carriers
pub record Filled (nodes : List Node) (ps : List ℕ) (at : ℕ) (old new : List ℕ) : Type 0 where
  pub positions : List ℕ
  pub carriers : Carriers nodes ps positions
  pub slots : FilledBy positions at old new

filled-resolves : {nodes : List Node} {ps : List ℕ} {at : ℕ} {old new : List ℕ} → Filled nodes ps at old new → Resolves (positions_of nodes ps) at old new (Ok tt)
filled-resolves {nodes} f = (f.positions, carriers-found nodes f.carriers, f.slots)

-- no cells
none_filled : (nodes : List Node) (at : ℕ) (old : List ℕ) → Filled nodes [] at old old
none_filled nodes at old = record { positions = []; carriers = no_carriers; slots = λ xs e q. rw (append-nil xs) q }

-- the slots of one feature, up to a cell
module _ (tree : List ℕ) (from n : ℕ) (phandles : List (Option ℕ)) (count at : ℕ) (old : List ℕ) where
  pub record CellsResolved (slots : List ℕ) (j : ℕ) : Type 0 where
    pub all : (nodes : List Node) (ps : List ℕ) → ArePhandles phandles nodes → count ≡ length nodes → n ≡ length ps → CellsLie tree ps from
        → Filled nodes (take j ps) at old slots

  pub cells-begin : CellsResolved old 0
  cells-begin = record { all = λ nodes ps h c l lie. none_filled nodes at old }

  pub cells-resolved : {slots : List ℕ} {j : ℕ} → CellsResolved slots j → n ≤ j → ResolvesCells tree from n phandles count at old slots (Ok tt)
  cells-resolved {slots} {j} r h nodes ps ph c l lie =
      let e = take_all j ps (omega arith) in rw e at (filled-resolves (r.all nodes ps ph c l lie))

  -- the next cell
  module _ {slots : List ℕ} {j p : ℕ} (r : CellsResolved slots j) (next : j < n) (e : p ≡ cell_at tree (from + 4 * j)) where
    pub cells-more : {k : ℕ} → IsFirst count (is_at phandles p) (Some k) → at + n ≤ slot_count → CellsResolved (set slots (at + j) k) (j + 1)
    cells-more {k} f room = record {
      all =
          λ nodes ps ph c l lie.
          let s = r.all nodes ps ph c l lie in
          let q : get_or ps j 0 ≡ p = sym (e ∙ lie.each j (omega arith)) in
          let more : take (j + 1) ps ≡ take j ps ++ p ∷ [] =
          ap (λ (x : ℕ). take x ps) (add-one j) ∙ take-suc ps j 0 (omega arith) ∙ ap (λ (x : ℕ). take j ps ++ x ∷ []) q in
          let here : length s.positions ≡ j = carriers-length nodes s.carriers ∙ length-take-le j ps (omega arith) in
          rw more
          (record {
            positions = s.positions ++ k ∷ [];
            carriers = carriers-more nodes p s.carriers (sym (carrier-is phandles nodes ph p c f));
            slots = λ xs z o. slot-more xs s.positions (at + j) k (s.slots xs z o) (omega arith) (omega arith);
          });
    }

    pub cells-fail : IsFirst count (is_at phandles p) None → ResolvesCells tree from n phandles count at old slots (Err UnknownPhandle)
    cells-fail f nodes ps ph c l lie =
        let s = r.all nodes ps ph c l lie in
        let q : get_or ps j 0 ≡ p = sym (e ∙ lie.each j (omega arith)) in
        let all : ps ≡ take j ps ++ p ∷ drop (suc j) ps = split_at ps j 0 (omega arith) ∙ ap (λ (x : ℕ). take j ps ++ x ∷ drop (suc j) ps) q in
        let none : positions_of nodes ps ≡ unknown =
        ap (positions_of nodes) all ∙ unknown-behind nodes p (drop (suc j) ps) s.carriers (sym (carrier-is phandles nodes ph p c f)) in
        (refl, none)

-- the dependencies of one feature, by where their cells lie
module _ (phandles : List (Option ℕ)) (count at : ℕ) (old : List ℕ) where
  abbrev ResolvesValue : Value → List ℕ → Result (Unit {0}) Refusal → Type 0
  ResolvesValue v new r = (nodes : List Node) → ArePhandles phandles nodes → count ≡ length nodes → Resolves (positions_of nodes (cells_of v)) at old new r

  pub no-dependencies : {v : Value} → v ≡ missing → ResolvesValue v old (Ok tt)
  no-dependencies e nodes ph c = rw e (filled-resolves (none_filled nodes at old))

  pub dependencies-lie : {tree : List ℕ} {v : Value} {from size : ℕ} (new : List ℕ) (r : Result (Unit {0}) Refusal) → Lies tree v from size
      → ResolvesCells tree from (size / 4) phandles count at old new r → ResolvesValue v new r
  dependencies-lie {v = v} new r g call nodes ph c = call nodes (cells_of v) ph c (sym (count_of g)) (cells-lie g)
