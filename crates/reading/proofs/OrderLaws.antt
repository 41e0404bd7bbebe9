-- The checks of nodes in order, by those of each node at its position. Assumes nothing.
use mathlib.Core.Path.{sym, subst}
use mathlib.Core.List.{List, [], ◌∷◌, ◌++◌, append-nil, append_assoc}
use Prim.Native.Nat.{ℕ, zero, suc, ◌<◌}
use native.Mathlib.Omega.{arith}
use lib.ListN.{length, take}
use Rattle.refusal.specs.Refusal.{Fault}
use Rattle.refusal.specs.Checks.{Check}
use Rattle.nodes.specs.Nodes.{Node, node_at}
use Rattle.reading.specs.Features.{in_order}
use Rattle.reading.specs.Ends.{AllHold, FirstFailing}
use Rattle.reading.proofs.CheckLaws.{hold-both, fail-left, fail-right}

module _ (checks : List Node → Node → List (Check Fault)) where
  -- behind some nodes, the checks of the first, and of the one at a later position
  module _ (P : List (Check Fault) → Type 0) (before : List Node) (n : Node) where
    first : P (checks (before ++ []) n) → P (checks before n)
    first h = subst (λ (l : List Node). P (checks l n)) (append-nil before) h

    later : (ms : List Node) {m : Node} → P (checks (before ++ n ∷ ms) m) → P (checks ((before ++ n ∷ []) ++ ms) m)
    later ms {m} h = subst (λ (l : List Node). P (checks l m)) (sym (append_assoc before (n ∷ []) ms)) h

  -- all hold
  holds-from : (before ns : List Node) → ((i : ℕ) → i < length ns → AllHold (checks (before ++ take i ns) (node_at ns i)))
      → AllHold (in_order checks before ns)
  unfolding in_order node_at
  holds-from before [] h = tt
  holds-from before (n ∷ ns) h =
      hold-both (checks before n) (in_order checks (before ++ n ∷ []) ns) (first AllHold before n (h 0 (omega arith)))
      (holds-from (before ++ n ∷ []) ns (λ i l. later AllHold before n (take i ns) (h (suc i) (omega arith))))

  pub order-holds : (nodes : List Node) → ((i : ℕ) → i < length nodes → AllHold (checks (take i nodes) (node_at nodes i)))
      → AllHold (in_order checks [] nodes)
  order-holds nodes h = holds-from [] nodes h

  -- the first that fails is of the node at a position
  fails-from : (before ns : List Node) (i : ℕ) {k p : ℕ} → i < length ns → ((j : ℕ) → j < i → AllHold (checks (before ++ take j ns) (node_at ns j)))
      → FirstFailing (checks (before ++ take i ns) (node_at ns i)) k p → FirstFailing (in_order checks before ns) k p
  unfolding in_order node_at
  fails-from before [] i l h f = absurd (omega arith)
  fails-from before (n ∷ ns) zero {k} {p} l h f =
      fail-left (checks before n) (in_order checks (before ++ n ∷ []) ns) (first (λ (cs : List (Check Fault)). FirstFailing cs k p) before n f)
  fails-from before (n ∷ ns) (suc i) {k} {p} l h f =
      fail-right (checks before n) (in_order checks (before ++ n ∷ []) ns) (first AllHold before n (h 0 (omega arith)))
      (fails-from (before ++ n ∷ []) ns i (omega arith) (λ j m. later AllHold before n (take j ns) (h (suc j) (omega arith)))
      (later (λ (cs : List (Check Fault)). FirstFailing cs k p) before n (take i ns) f))

  pub order-fails : (nodes : List Node) (i : ℕ) {k p : ℕ} → i < length nodes → ((j : ℕ) → j < i → AllHold (checks (take j nodes) (node_at nodes j)))
      → FirstFailing (checks (take i nodes) (node_at nodes i)) k p → FirstFailing (in_order checks [] nodes) k p
  order-fails nodes i l h f = fails-from [] nodes i l h f
