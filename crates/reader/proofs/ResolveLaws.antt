-- The slots of all features, feature by feature. Assumes nothing.
use mathlib.Core.Path.{◌≡◌, refl, sym, ap, subst, subst⁻¹, ◌∙◌}
use mathlib.Core.List.{List, [], ◌∷◌, ◌++◌}
use Prim.Native.Nat.{ℕ, suc, ◌+◌, ◌*◌, ◌<◌, ◌≤◌}
use native.Mathlib.Omega.{arith}
use native.Mathlib.Numerals.{add-one}
use lib.ListN.{length, take, drop, replicate}
use lib.Seq.{length-take-le, take_all}
use Rattle.cells.specs.Rows.{padded}
use Rattle.characters.specs.Characters.{bytes}
use Rattle.header.specs.declared.Blocks.{Blocks}
use Rattle.std.specs.Prelude.{Option, Result, Ok, Err}
use Rattle.refusal.specs.declared.Refusal.{Refusal}
use Rattle.refusal.specs.Refusal.{refused_at}
use Rattle.record.specs.Record.{most_dependencies, slot_count}
use Rattle.nodes.specs.declared.ChildPlaces.{ChildPlaces}
use Rattle.nodes.specs.Nodes.{Node, node_at}
use Rattle.nodes.specs.Values.{cells_of}
use Rattle.reading.specs.Dependencies.{carrier_checks, positions_of}
use Rattle.reading.specs.Accepted.{dependencies_of}
use Rattle.reading.specs.Ends.{FirstFailing}
use Rattle.reader.specs.Parts.{Resolves, dependencies_at, ResolvesFeature, Known, ResolvesAll}
use Rattle.reading.proofs.Carriers.{node-split}
use Rattle.reader.proofs.RecordLaws.{place_at, place-node}
use Rattle.reading.proofs.Resolutions.{carriers-length, found-carriers, unknown-fails}
use Rattle.reading.proofs.SlotRowLaws.{take-node, pad-inside, fail-at, Rows, no_rows, rows_more, rows-found, rows-hold, rows-length}

-- the slots of the first features
pub record FirstResolved (nodes first : List Node) (slots : List ℕ) : Type 0 where
  pub filled : List ℕ
  pub rows : Rows nodes first filled
  pub are : slots ≡ padded slot_count 0 filled

module _ (tree : List ℕ) (b : Blocks) (fs : ChildPlaces) (phandles : List (Option ℕ)) where
  pub record AllResolved (slots : List ℕ) (i : ℕ) : Type 0 where
    pub all : (nodes : List Node) → Known tree b fs phandles nodes → FirstResolved nodes (take i nodes) slots

  pub resolve-begins : {slots : List ℕ} → slots ≡ replicate slot_count 0 → AllResolved slots 0
  resolve-begins e = rw e (record { all = λ nodes k. record { filled = []; rows = no_rows; are = refl } })

  pub all-resolved : {slots : List ℕ} {i : ℕ} → AllResolved slots i → fs.count ≤ i → ResolvesAll tree b fs phandles slots (Ok tt)
  all-resolved {slots} {i} r h nodes k =
      let f : FirstResolved nodes nodes slots = rw (take_all i nodes (omega (arith, k.at.count))) at (r.all nodes k) in
      record { hold = rows-hold nodes f.rows; positions = f.filled; found = rows-found nodes f.rows; are = f.are }

  -- the next feature
  module _ {i : ℕ} (next : i < fs.count) where
    abbrev first : ℕ
    first = (place_at fs i).behind

    cells_are : {nodes : List Node} → Known tree b fs phandles nodes → dependencies_at tree b first ≡ dependencies_of (node_at nodes i)
    cells_are k = ap cells_of (sym ((place-node k.at i next).values (bytes "dependencies")))

    -- what the call does
    module _ {old : List ℕ} (new : List ℕ) (t : Result (Unit {0}) Refusal) (r : AllResolved old i)
        (call : ResolvesFeature tree b first phandles fs.count (most_dependencies * i) old new t) where
      called : (nodes : List Node) → Known tree b fs phandles nodes → Resolves (positions_of nodes (dependencies_of (node_at nodes i))) (most_dependencies * i) old new t
      called nodes k = rw (cells_are k) at (call nodes k.noted k.at.count)

      pub resolve-more : {u : Unit {0}} → t ≡ Ok u → AllResolved new (i + 1)
      resolve-more z = record {
        all =
            λ nodes k.
            let n = node_at nodes i in
            let before = r.all nodes k in
            let h : i < length nodes = omega (arith, k.at.count) in
            let size : length before.filled ≡ most_dependencies * i = rows-length nodes before.rows ∙ ap (λ (x : ℕ). most_dependencies * x) (length-take-le i nodes (omega arith)) in
            let s = rw z at (called nodes k) in
            let c = found-carriers nodes (dependencies_of n) s.1 in
            let few : length s.0 ≤ most_dependencies = omega (arith, carriers-length nodes c, k.few i h) in
            let more : take (i + 1) nodes ≡ take i nodes ++ n ∷ [] = ap (λ (x : ℕ). take x nodes) (add-one i) ∙ take-node nodes i h in
            rw more
            (record {
              filled = before.filled ++ padded most_dependencies 0 s.0;
              rows = rows_more nodes n before.rows (k.few i h) c;
              are =
                  s.2 before.filled size before.are
                  ∙ pad-inside slot_count most_dependencies before.filled s.0 few (omega (arith, size, k.at.few));
            });
      }

      pub resolve-fail : {e : Refusal} → t ≡ Err e → ResolvesAll tree b fs phandles new (Err (refused_at e (place_at fs i).at))
      resolve-fail z nodes k =
          let n = node_at nodes i in
          let h : i < length nodes = omega (arith, k.at.count) in
          let f = rw z at (called nodes k) in
          let none = unknown-fails nodes n.at (dependencies_of n) f.1 in
          let here = fail-at nodes (take i nodes) n (drop (suc i) nodes) (rows-hold nodes (r.all nodes k).rows) none in
          let all = subst⁻¹ (λ (l : List Node). FirstFailing (carrier_checks nodes l) 13 n.at) (node-split nodes i h) here in
          rw f.0 (subst (FirstFailing (carrier_checks nodes nodes) 13) (place-node k.at i next).offset all)
