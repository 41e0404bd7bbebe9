-- What is handed on depends on the bytes and bits that the edition names, and on nothing else. Assumes nothing.
use mathlib.Core.Path.{◌≡◌, refl, sym, ap, ◌∙◌}
use mathlib.Core.List.{List}
use Prim.Native.Nat.{ℕ, ◌+◌, ◌-◌, ◌<◌, ◌≤◌}
use native.Mathlib.Decide.{ℕ_discrete}
use native.Mathlib.Omega.{arith}
use lib.ListN.{length, take, drop, length-take, length-drop, get_or-eq_default}
use lib.Seq.{get_or-take, get_or-drop, ext_get_or}
use Rattle.cells.specs.Cells.{byte_at, cell_at, word_at}
use Rattle.cells.proofs.Rows.{length-padded, padded-at}
use Rattle.attributes.specs.Attributes.{most_bytes, first_later, later_bytes, edition_first, edition_later, top_bit, known_bytes, pa_table}
use Rattle.attributes.specs.Reserved.{Agree}
use Rattle.attributes.proofs.Editions.{known-first, known-later}

-- the later bytes, by their places
module _ (bytes : List ℕ) (h : length bytes ≤ most_bytes) where
  later-length : length (later_bytes bytes) ≡ most_bytes - first_later
  unfolding later_bytes
  later-length = length-padded (most_bytes - first_later) 0 (drop first_later bytes) (omega (arith, length-drop first_later bytes))

  later-at : (k : ℕ) → byte_at (later_bytes bytes) k ≡ byte_at bytes (first_later + k)
  unfolding later_bytes
  later-at k = padded-at (most_bytes - first_later) 0 (drop first_later bytes) k ∙ get_or-drop first_later bytes k 0

later_same : (a b : List ℕ) → length a ≤ most_bytes → length b ≤ most_bytes → ((k : ℕ) → first_later ≤ k → k < most_bytes → byte_at a k ≡ byte_at b k)
    → later_bytes a ≡ later_bytes b
later_same a b s t h =
    ext_get_or 0 (later_bytes a) (later_bytes b) (later-length a s ∙ sym (later-length b t))
    (λ k l. later-at a s k ∙ h (first_later + k) (omega arith) (omega (arith, later-length a s)) ∙ sym (later-at b t k))

-- where all bytes are known
all_known : (a b : List ℕ) → length a ≤ most_bytes → length b ≤ most_bytes → Agree edition_later a b → pa_table a ≡ pa_table b
unfolding pa_table word_at cell_at
all_known a b s t g =
    let at : (k : ℕ) → k < 6 → byte_at a k ≡ byte_at b k = g.raw in
    let word : (k : ℕ) → 8 ≤ k → k < 16 → byte_at a k ≡ byte_at b k = g.coprocessor in
    let later : (k : ℕ) → first_later ≤ k → k < most_bytes → byte_at a k ≡ byte_at b k = g.later refl in
    rw (
      at 0 (omega arith),
      at 1 (omega arith),
      at 2 (omega arith),
      at 3 (omega arith),
      at 4 (omega arith),
      at 5 (omega arith),
      g.data_streams,
      g.vector,
      g.vector_scalar,
      g.vector_crypto,
      g.transactional_memory,
      later 38 (omega arith) (omega arith),
      later 40 (omega arith) (omega arith),
      later 64 (omega arith) (omega arith),
      word 8 (omega arith) (omega arith),
      word 9 (omega arith) (omega arith),
      word 10 (omega arith) (omega arith),
      word 11 (omega arith) (omega arith),
      word 12 (omega arith) (omega arith),
      word 13 (omega arith) (omega arith),
      word 14 (omega arith) (omega arith),
      word 15 (omega arith) (omega arith),
      later_same a b s t later,
    )

-- the bytes that the first edition knows
pub front_at : (bytes : List ℕ) (k : ℕ) → k < first_later → byte_at (take first_later bytes) k ≡ byte_at bytes k
front_at bytes k h = get_or-take first_later bytes k 0 h

pub front-behind : (bytes : List ℕ) (k : ℕ) → first_later ≤ k → byte_at (take first_later bytes) k ≡ 0
front-behind bytes k h = get_or-eq_default (take first_later bytes) 0 (omega (arith, length-take first_later bytes))

front-agrees : (a b : List ℕ) → Agree edition_first a b → Agree edition_later (take first_later a) (take first_later b)
front-agrees a b g =
    let same : (k : ℕ) → k < first_later → byte_at a k ≡ byte_at b k → byte_at (take first_later a) k ≡ byte_at (take first_later b) k =
    λ k h e. front_at a k h ∙ e ∙ sym (front_at b k h) in
    let top : (k : ℕ) → k < first_later → top_bit (byte_at a k) ≡ top_bit (byte_at b k) → top_bit (byte_at (take first_later a) k) ≡ top_bit (byte_at (take first_later b) k) =
    λ k h e. ap top_bit (front_at a k h) ∙ e ∙ ap top_bit (sym (front_at b k h)) in
    record {
      raw = λ k h. same k (omega arith) (g.raw k h);
      data_streams = top 6 (omega arith) g.data_streams;
      coprocessor = λ k l h. same k (omega arith) (g.coprocessor k l h);
      vector = top 16 (omega arith) g.vector;
      vector_scalar = top 18 (omega arith) g.vector_scalar;
      vector_crypto = top 20 (omega arith) g.vector_crypto;
      transactional_memory = top 22 (omega arith) g.transactional_memory;
      later = λ e k l h. front-behind a k l ∙ sym (front-behind b k l);
    }

-- in each edition, for bytes that a descriptor can have
pub reserved-ignored : (edition : ℕ) → edition ≤ edition_later → (a b : List ℕ) → length a ≤ most_bytes → length b ≤ most_bytes → Agree edition a b
    → pa_table (known_bytes edition a) ≡ pa_table (known_bytes edition b)
reserved-ignored edition n a b s t g = go (ℕ_discrete edition edition_first)
  where
    go : Dec (edition ≡ edition_first) → pa_table (known_bytes edition a) ≡ pa_table (known_bytes edition b)
    go (yes e) =
        rw (known-first a e, known-first b e)
        (all_known (take first_later a) (take first_later b) (omega (arith, length-take first_later a)) (omega (arith, length-take first_later b))
        (front-agrees a b (rw e at g)))
    go (no e) =
        let l : edition ≡ edition_later = omega arith in
        rw (known-later a e, known-later b e) (all_known a b s t (rw l at g))
