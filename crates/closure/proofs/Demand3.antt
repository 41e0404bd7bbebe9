-- Demand 3 on sets: any graph of dependencies among n positions, any set of permitted positions. Assumes nothing.
use Prim.Native.Nat.{ℕ, ◌≤◌, ◌<◌}
use mathlib.Core.Path.{◌≡◌}
use mathlib.Core.Bool.{Bool, true, false}
use mathlib.Core.List.{List}
use mathlib.Core.Logic.{◌↔◌}
use Rattle.closure.specs.Graph.{Below}
use Rattle.closure.specs.Enabled.{enabled, Largest}
use Rattle.closure.specs.Chain.{NotAfter, Chain, chain_length}
use Rattle.closure.specs.Reach.{Needs, reach, enabled_by_reach}
use Rattle.closure.specs.Shortest.{shortest_chain}
use Rattle.closure.proofs.Largest.{enabled-permitted, enabled-closed, enabled-holds-all, enabled-largest, largest-unique}
use Rattle.closure.proofs.Chains.{left-out-where}
use Rattle.closure.proofs.Reach.{reach-where}
use Rattle.closure.proofs.ByReach.{by-reach}
use Rattle.closure.proofs.Shortest.{shortest-chain, shortest-fits}

-- dependencies of positions below n are below n; a row has width bits, and width is at least n
module _ (num : ℕ → ℕ) (dep : ℕ → ℕ → ℕ) (permitted : ℕ → Bool) (n : ℕ) (graph : Below n num dep) (width : ℕ) (fits : n ≤ width) where
  -- the positions below n that are enabled
  abbrev pub E : ℕ → Bool
  E = enabled num dep permitted n

  -- a chain from a position, and the one reported
  abbrev pub ChainFrom : ℕ → List ℕ → Type 0
  ChainFrom = Chain num dep permitted

  abbrev pub reported : ℕ → List ℕ
  reported = shortest_chain num dep permitted width n

  -- 1. the plain sweep and the quick road over the reach table give the same set
  pub same_set : (i : ℕ) → i < n → enabled_by_reach (reach num dep n) permitted width i ≡ E i
  same_set = by-reach num dep permitted n graph width fits

  -- 1. t is in row i exactly when i needs t, directly or not, or is t
  pub in-row : (i t : ℕ) → i < n → reach num dep n i t ≡ true ↔ Needs num dep i t
  in-row = reach-where num dep n graph

  -- 2. all its members are permitted
  pub members-permitted : (i : ℕ) → i < n → E i ≡ true → permitted i ≡ true
  members-permitted = enabled-permitted num dep permitted n graph

  -- 3. each member's dependencies are members too
  pub dependencies-members : (i : ℕ) → i < n → E i ≡ true → (j : ℕ) → j < num i → E (dep i j) ≡ true
  dependencies-members = enabled-closed num dep permitted n graph

  -- 4. every other set of which both can be said lies inside it
  pub others-inside : (s : ℕ → Bool) → ((i : ℕ) → i < n → s i ≡ true → permitted i ≡ true)
      → ((i : ℕ) → i < n → s i ≡ true → (j : ℕ) → j < num i → s (dep i j) ≡ true) → (i : ℕ) → i < n → s i ≡ true → E i ≡ true
  others-inside = enabled-holds-all num dep permitted n graph

  -- 4. the set of which 2 to 4 hold is unique
  pub only_one : (s : ℕ → Bool) → Largest num dep permitted n s → (i : ℕ) → i < n → s i ≡ E i
  only_one s h = largest-unique num dep permitted n s E h (enabled-largest num dep permitted n graph)

  -- 5. a position is left out exactly when a chain of dependencies leads from it to an unpermitted one
  pub left_out : (i : ℕ) → i < n → E i ≡ false ↔ ((c : List ℕ) × ChainFrom i c)
  left_out = left-out-where num dep permitted n graph

  -- 6. for each position left out, the chain reported is such a chain
  pub reported-chain : (i : ℕ) → i < n → E i ≡ false → ChainFrom i (reported i)
  reported-chain i l e = (shortest-chain num dep permitted width n fits graph i l e).short.chain

  -- 6. every other such chain from that position is at least as long
  pub reported-shortest : (i : ℕ) → i < n → E i ≡ false → (c : List ℕ) → ChainFrom i c → chain_length (reported i) ≤ chain_length c
  reported-shortest i l e = (shortest-chain num dep permitted width n fits graph i l e).short.shortest

  -- 6. of the equally short ones none is smaller from the front
  pub reported-smallest : (i : ℕ) → i < n → E i ≡ false → (c : List ℕ) → ChainFrom i c → chain_length c ≡ chain_length (reported i) → NotAfter (reported i) c
  reported-smallest i l e = (shortest-chain num dep permitted width n fits graph i l e).smallest

  -- 8. the chain reported has at most n positions
  pub reported-fits : (i : ℕ) → i < n → E i ≡ false → chain_length (reported i) ≤ n
  reported-fits = shortest-fits num dep permitted width n fits graph
