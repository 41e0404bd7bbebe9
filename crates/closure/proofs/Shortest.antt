-- The chain reported is a chain, no chain is shorter, none as short is smaller from the front, and it has at most n positions. Assumes nothing.
use Prim.Native.Nat.{ℕ, zero, suc, ◌≤◌, ◌<◌}
use mathlib.Core.Path.{◌≡◌, refl, sym, ap, subst, ◌∙◌}
use mathlib.Core.Bool.{Bool, true, false, not, cond}
use mathlib.Core.List.{List, [], ◌∷◌}
use mathlib.Core.Logic.{inl, inr, ⊎_elim}
use native.Mathlib.Nat.{eq-or-lt_of_le}
use native.Mathlib.Omega.{arith}
use native.Mathlib.Decide.{dec_le}
use borrow.Author.Tests.{not-true}
use lib.ListN.{length}
use Rattle.positions.proofs.BelowLaws.{every-fails, no_way}
use Rattle.closure.specs.Graph.{Below}
use Rattle.closure.specs.Enabled.{after_sweeps, enabled}
use Rattle.closure.specs.Chain.{NotAfter, Chain, end, link, Smallest}
use Rattle.closure.specs.Shortest.{next, chain_within, shortest_chain}
use Rattle.closure.proofs.Sweeps.{sweeps-permitted}
use Rattle.closure.proofs.Stable.{stable}
use Rattle.closure.proofs.Chains.{left-out-chain, chain-sweeps}
use Rattle.closure.proofs.Smallest.{smallest-is, smallest-le}

module _ (num : ℕ → ℕ) (dep : ℕ → ℕ → ℕ) (permitted : ℕ → Bool) (top : ℕ) where
  abbrev left : ℕ → ℕ → Bool
  left = after_sweeps num dep permitted

  abbrev ChainOf : ℕ → List ℕ → Type 0
  ChainOf = Chain num dep permitted

  abbrev given : ℕ → ℕ → List ℕ
  given = chain_within num dep permitted top

  abbrev after : ℕ → ℕ → ℕ
  after = next num dep permitted top

  abbrev choice : Bool → ℕ → ℕ → List ℕ
  choice b k i = cond b (i ∷ given k (after k i)) (given k i)

  chain_head : {i : ℕ} {c : List ℕ} → ChainOf i c → (d : List ℕ) × (c ≡ i ∷ d)
  chain_head (end e) = ([], refl)
  chain_head (link {c = c} j l ch) = (c, refl)

  given-short : (k i : ℕ) → length (given k i) ≤ suc k
  unfolding chain_within
  given-short zero i = omega arith
  given-short (suc k) i = go (left k i) (given-short k (after k i)) (given-short k i)
    where
      go : (b : Bool) → length (given k (after k i)) ≤ suc k → length (given k i) ≤ suc k → length (choice b k i) ≤ suc (suc k)
      go true p q = omega arith
      go false p q = omega arith

  given-head : (k i : ℕ) → (c : List ℕ) × (given k i ≡ i ∷ c)
  unfolding chain_within
  given-head zero i = ([], refl)
  given-head (suc k) i = go (left k i) (given-head k i)
    where
      go : (b : Bool) → ((c : List ℕ) × (given k i ≡ i ∷ c)) → (c : List ℕ) × (choice b k i ≡ i ∷ c)
      go true r = (given k (after k i), refl)
      go false r = r

  -- a chain from a position that is left after k sweeps has more than k + 1 positions
  chain-longer : {i : ℕ} {c : List ℕ} (k : ℕ) → left k i ≡ true → ChainOf i c → suc k < length c
  chain-longer {i} {c} k e ch = go (dec_le (length c) (suc k))
    where
      go : Dec (length c ≤ suc k) → suc k < length c
      go (yes h) = no_way (left k i) e (chain-sweeps num dep permitted k ch h)
      go (no h) = omega arith

  -- a position that sweep k + 1 is the first to take out has a dependency that k sweeps leave out
  pub next-is : (k i : ℕ) → ((j : ℕ) → j < num i → dep i j < top) → left k i ≡ true → left (suc k) i ≡ false
      → (j : ℕ) × (j < num i) × (dep i j ≡ after k i) × (left k (dep i j) ≡ false)
  unfolding after_sweeps
  next-is k i low e f =
      let w = every-fails (num i) (λ j. left k (dep i j)) (rw (sweeps-permitted num dep permitted k i e) at f) in
      let le = smallest-le (dep i) (λ d. not (left k d)) top (num i) w.0 w.1 (ap not w.2) in
      let lt = low w.0 w.1 in
      ⊎_elim (λ q. absurd (omega arith)) (λ r. (r.0, r.1, r.2, not-true (left k (dep i r.0)) r.3))
      (smallest-is (dep i) (λ d. not (left k d)) top (num i))

  pub chain-shortest : (k i : ℕ) {c : List ℕ} → left k i ≡ false → ChainOf i c → length (given k i) ≤ length c
  unfolding chain_within
  chain-shortest zero i {c} e ch = let h = chain_head ch in rw h.1 (omega arith)
  chain-shortest (suc k) i {c} e ch = go (left k i) refl (λ q. chain-shortest k i q ch)
    where
      go : (b : Bool) → left k i ≡ b → (left k i ≡ false → length (given k i) ≤ length c) → length (choice b k i) ≤ length c
      go false q ih = ih q
      go true q ih = omega (arith, chain-longer k q ch, given-short k (after k i))

  module _ (n : ℕ) (fits : n ≤ top) (graph : Below n num dep) where
    pub chain-is : (k i : ℕ) → i < n → left k i ≡ false → ChainOf i (given k i)
    unfolding chain_within after_sweeps
    chain-is zero i l e = end e
    chain-is (suc k) i l e = go (left k i) refl (chain-is k i l) (chain-is k)
      where
        go : (b : Bool) → left k i ≡ b → (left k i ≡ false → ChainOf i (given k i)) → ((d : ℕ) → d < n → left k d ≡ false → ChainOf d (given k d))
            → ChainOf i (choice b k i)
        go false q same ih = same q
        go true q same ih =
            let w = next-is k i (λ j h. let b = graph.below i l j h in omega arith) q e in
            link w.0 w.1 (subst (λ (d : ℕ). ChainOf (dep i w.0) (given k d)) w.2 (ih (dep i w.0) (graph.below i l w.0 w.1) w.3))

    pub chain-smallest : (k i : ℕ) {c : List ℕ} → i < n → left k i ≡ false → ChainOf i c → length c ≡ length (given k i) → NotAfter (given k i) c
    unfolding chain_within
    chain-smallest zero i {c} l e ch s = let h = chain_head ch in rw h.1 (inr (refl, tt))
    chain-smallest (suc k) i {c} l e ch s = go (left k i) refl ch s (λ q s. chain-smallest k i l q ch s) (λ d c ld q ch s. chain-smallest k d ld q ch s)
      where
        go : (b : Bool) → left k i ≡ b → {c : List ℕ} → ChainOf i c → length c ≡ length (choice b k i)
            → (left k i ≡ false → length c ≡ length (given k i) → NotAfter (given k i) c)
            → ((d : ℕ) (c : List ℕ) → d < n → left k d ≡ false → ChainOf d c → length c ≡ length (given k d) → NotAfter (given k d) c)
            → NotAfter (choice b k i) c
        go false q ch s same ih = same q s
        go true q (end e) s same ih = no_way (permitted i) (sweeps-permitted num dep permitted k i q) e
        go true q (link {c = c} j h ch) s same ih = inr (refl, rest)
          where
            out : left k (dep i j) ≡ false
            out = chain-sweeps num dep permitted k ch (omega (arith, given-short k (after k i)))

            le : after k i ≤ dep i j
            le = smallest-le (dep i) (λ d. not (left k d)) top (num i) j h (ap not out)

            rest : NotAfter (given k (after k i)) c
            rest = ⊎_elim (λ e. rw e (ih (dep i j) c (graph.below i l j h) out ch (omega (arith, ap (λ (d : ℕ). length (given k d)) e))))
                (λ lt. rw ((given-head k (after k i)).1, (chain_head ch).1) (inl lt)) (eq-or-lt_of_le le)

    -- what is reported for a position left out
    pub shortest-chain : (i : ℕ) → i < n → enabled num dep permitted n i ≡ false → Smallest num dep permitted i (shortest_chain num dep permitted top n i)
    shortest-chain i l e = record {
      short = record { chain = chain-is n i l e; shortest = λ d ch. chain-shortest n i e ch };
      smallest = λ d ch s. chain-smallest n i l e ch s;
    }

    pub shortest-fits : (i : ℕ) → i < n → enabled num dep permitted n i ≡ false → length (shortest_chain num dep permitted top n i) ≤ n
    shortest-fits i l e = go n refl
      where
        go : (m : ℕ) → n ≡ m → length (given n i) ≤ n
        go zero q = absurd (omega arith)
        go (suc m) q =
            let s = stable num dep permitted n graph m (omega arith) i l in
            let r = left-out-chain num dep permitted m i (sym s ∙ ap (λ (k : ℕ). left k i) (sym q) ∙ e) in
            omega (arith, r.1, chain-shortest n i e r.2)
