-- How a chain is told: by the layers that hold the position, of every graph that the table shows. Assumes nothing.
use Rattle.std.specs.Prelude.{Result}
use Rattle.refusal.specs.declared.Refusal.{Refusal}
use Prim.Native.Nat.{ℕ, ◌+◌, ◌≤◌, ◌<◌}
use mathlib.Core.Path.{◌≡◌, sym, ap, ◌∙◌}
use mathlib.Core.Bool.{Bool, true, false}
use mathlib.Core.List.{List, [], ◌∷◌}
use native.Mathlib.Omega.{arith}
use lib.Arith.{lt→nleb, le→nltb}
use lib.Dec.{le→leb, lt→ltb}
use lib.ListN.{length}
use Rattle.refusal.specs.Refusal.{answer, refuse}
use Rattle.refusal.proofs.Checks.{Stops, Passes, stops, passes}
use Rattle.cells.specs.Buffer.{written}
use Rattle.cells.proofs.Writing.{refused-leaves, passed-writes}
use Rattle.positions.specs.Sets.{room, has}
use Rattle.record.specs.Record.{most_features}
use Rattle.tables.specs.Tables.{row_at}
use Rattle.closure.specs.Enabled.{after_sweeps, enabled}
use Rattle.closure.specs.Shortest.{shortest_chain}
use Rattle.enabled.specs.Parts.{Shows}
use Rattle.chain.specs.Chain.{chain_outcome}
use Rattle.chain.specs.Layers.{layer_at, set_at, Held, way_down, AllBelow, graph_checks, ShowsSome, Tells}
use Rattle.chain.specs.declared.Layers.{Layers}
use Rattle.chain.proofs.SweepLaws.{layer-sweeps, out-on}
use Rattle.chain.proofs.WayLaws.{WayIs, way-chain, chain-on}

-- no position below the count
pub tells-past : {table p old : List ℕ} {n i : ℕ} {t : Result ℕ Refusal} → n ≤ i → chain_outcome t ≡ refuse 0 16 → Tells table n p i old old t
unfolding graph_checks
tells-past {n = n} {i} h e = record {
  outcome = λ num dep shows. e ∙ sym (stops (refuse 0) 0 0 _ _ (le→nltb i n h));
  bytes = λ num dep shows. sym (refused-leaves _ _ _ _ 0 (le→nltb i n h));
}

-- a position that every layer holds
pub tells-enabled : {table p old : List ℕ} {n i : ℕ} {t : Result ℕ Refusal} → n ≤ most_features → i < n → has (layer_at table n p n) i ≡ true
    → chain_outcome t ≡ refuse 0 17 → Tells table n p i old old t
unfolding graph_checks
tells-enabled {table} {p} {old} {n} {i} few low stays q = record {
  outcome = λ num dep shows. q ∙ sym (stops (refuse 0) 0 1 _ _ (stop num dep shows));
  bytes = λ num dep shows. sym (refused-leaves _ _ _ _ 1 (stop num dep shows));
}
  where
    stop : (num : ℕ → ℕ) (dep : ℕ → ℕ → ℕ) → Shows num dep n (row_at table) → Stops 1 (graph_checks num dep n p i (length old))
    stop num dep shows = (lt→ltb i n low, rw (sym (layer-sweeps num dep n table shows few p n i low) ∙ stays) tt)

all-below : (m n : ℕ) (xs : List ℕ) → m ≤ n → AllBelow m xs → AllBelow n xs
all-below m n [] h a = tt
all-below m n (x ∷ xs) h a = (omega (arith, a.0), all-below m n xs h a.1)

module _ {table p : List ℕ} {n i : ℕ} {l : Layers} (few : n ≤ most_features) (low : i < n) (f : Held table n p i l) where
  abbrev way : List ℕ
  way = way_down table (set_at l.sets) l.held i

  -- what the layers say of the position
  module _ (num : ℕ → ℕ) (dep : ℕ → ℕ → ℕ) (shows : Shows num dep n (row_at table)) where
    abbrev left : ℕ → ℕ → Bool
    left = after_sweeps num dep (has p)

    layer : (k x : ℕ) → x < n → has (layer_at table n p k) x ≡ left k x
    layer = layer-sweeps num dep n table shows few p

    out : left l.held i ≡ false
    out = sym (layer l.held i low) ∙ f.out

    left_out : enabled num dep (has p) n i ≡ false
    left_out = out-on num dep n table shows few (has p) l.held i out n f.within

    way-is : WayIs num dep n table shows few (has p) (set_at l.sets) l.held i
    way-is =
        way-chain num dep n table shows few (has p) (set_at l.sets) l.held i low
        (λ m q x b. ap (λ (s : List ℕ). has s x) (f.layers m q) ∙ layer m x b) (λ m q. sym (layer m i low) ∙ f.holds m q) out

    chain-is : way ≡ shortest_chain num dep (has p) room n i
    chain-is = way-is.chain ∙ sym (chain-on num dep n table shows few (has p) l.held i out n f.within)

    length-is : l.held + 1 ≡ length (shortest_chain num dep (has p) room n i)
    length-is = sym way-is.long ∙ ap length chain-is

  pub way-low : ShowsSome n table → AllBelow most_features (way_down table (set_at l.sets) l.held i)
  way-low s = all-below n most_features way few (way-is s.num s.dep s.shows).low

  module _ {old : List ℕ} {t : Result ℕ Refusal} where
    pub tells-short : length old < l.held + 1 → chain_outcome t ≡ refuse 0 18 → Tells table n p i old old t
    unfolding graph_checks
    tells-short h q = record {
      outcome = λ num dep shows. q ∙ sym (stops (refuse 0) 0 2 _ _ (stop num dep shows));
      bytes = λ num dep shows. sym (refused-leaves _ _ _ _ 2 (stop num dep shows));
    }
      where
        stop : (num : ℕ → ℕ) (dep : ℕ → ℕ → ℕ) → Shows num dep n (row_at table) → Stops 2 (graph_checks num dep n p i (length old))
        stop num dep shows =
            let long = length (shortest_chain num dep (has p) room n i) in
            (lt→ltb i n low, (rw (left_out num dep shows) tt, lt→nleb long (length old) (omega (arith, length-is num dep shows))))

    pub tells-chain : {new : List ℕ} → l.held + 1 ≤ length old → new ≡ written old 0 (way_down table (set_at l.sets) l.held i)
        → chain_outcome t ≡ answer (l.held + 1) → Tells table n p i old new t
    unfolding graph_checks
    tells-chain h w q = record {
      outcome = λ num dep shows. q ∙ ap (λ (m : ℕ). answer m) (length-is num dep shows) ∙ sym (passes (refuse 0) _ _ (pass num dep shows));
      bytes = λ num dep shows. w ∙ ap (written old 0) (chain-is num dep shows) ∙ sym (passed-writes _ _ _ _ (pass num dep shows));
    }
      where
        pass : (num : ℕ → ℕ) (dep : ℕ → ℕ → ℕ) → Shows num dep n (row_at table) → Passes (graph_checks num dep n p i (length old))
        pass num dep shows =
            let long = length (shortest_chain num dep (has p) room n i) in
            (lt→ltb i n low, (rw (left_out num dep shows) tt, (le→leb long (length old) (omega (arith, length-is num dep shows)), tt)))
