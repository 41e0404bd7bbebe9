-- "Bytes after the total size are not read": two lent runs of bytes that are the same in what is read are judged alike, refused headers
-- included. Assumes nothing.
use mathlib.Core.Path.{◌≡◌, refl, sym, ap, ◌∙◌}
use mathlib.Core.List.{List, ◌++◌}
use mathlib.Core.Logic.{◌↔◌}
use Prim.Native.Nat.{ℕ, zero, suc, ◌+◌, ◌≤◌, max}
use native.Mathlib.Omega.{arith}
use native.Mathlib.Decide.{dec_le}
use borrow.Author.Tests.{le-leb, lt-leb, leb-true}
use lib.Dec.{leb, eqb}
use lib.ListN.{length, take, drop, length-append, length-take}
use lib.Seq.{take-take, take-append-le}
use Rattle.refusal.specs.Refusal.{Placed, refuse_at}
use Rattle.refusal.proofs.Checks.{check-same}
use Rattle.cells.specs.Cells.{cell_at}
use Rattle.header.specs.declared.Blocks.{Blocks}
use Rattle.header.specs.Header.{total_size, header_bytes, largest_tree, block_checks, header_checks, blocks_of, no_blocks, judged, header}
use Rattle.header.proofs.Accepted.{header-lies, header-blocks}
use Rattle.tokens.specs.Tokens.{Token}
use Rattle.walk.specs.Walk.{Verdict, accepted, refused, before_root, walk, tree_tokens}
use Rattle.walk.specs.Checked.{layout_of, judge, after_header, check_tree}
use Rattle.walk.specs.TotalSize.{bytes_read, SameTree}
use Rattle.walk.proofs.Agreement.{cell-agrees, tree-tokens-below}

-- two tests of numbers that hold alike
test-same : {a b c d : ℕ} → (a ≤ b) ↔ (c ≤ d) → leb a b ≡ leb c d
test-same {a} {b} {c} {d} e = go (dec_le a b)
  where
    go : Dec (a ≤ b) → leb a b ≡ leb c d
    go (yes h) = le-leb a b h ∙ sym (le-leb c d (e.0 h))
    go (no h) = let k : c ≤ d → ⊥ = λ l. h (e.1 l) in lt-leb a b (omega arith) ∙ sym (lt-leb c d (omega arith))

-- the first two cells are read, and no more than they and the total size say, nor than the largest tree has
module _ (tree : List ℕ) where
  read-bounds : (8 ≤ bytes_read tree) × (bytes_read tree ≤ max 8 (total_size tree)) × (bytes_read tree ≤ largest_tree)
  read-bounds = go (dec_le (total_size tree) largest_tree)
    where
      go : Dec (total_size tree ≤ largest_tree) → (8 ≤ bytes_read tree) × (bytes_read tree ≤ max 8 (total_size tree)) × (bytes_read tree ≤ largest_tree)
      go (yes h) = rw (le-leb (total_size tree) largest_tree h) (omega arith)
      go (no h) = rw (lt-leb (total_size tree) largest_tree (omega arith)) (omega arith)

  read_whole : total_size tree ≤ largest_tree → total_size tree ≤ bytes_read tree
  read_whole h = rw (le-leb (total_size tree) largest_tree h) (omega arith)

module _ (s t : List ℕ) (same : SameTree s t) where
  -- the cells that are read
  cell_same : header_bytes ≤ length s → (at : ℕ) → at + 4 ≤ bytes_read s → cell_at s at ≡ cell_at t at
  cell_same long at h = cell-agrees s t 0 (bytes_read s) (same.first long) at (omega arith) h

  -- the checks behind the total size's
  later_same : header_bytes ≤ length s → total_size s ≤ largest_tree → header_bytes ≤ total_size s
      → judged (drop 5 (header_checks s)) s ≡ judged (drop 5 (header_checks t)) t
  unfolding header_checks block_checks blocks_of
  later_same long small enough =
      let n = read_whole s small in
      rw (
        cell_same long 4 (omega arith),
        cell_same long 8 (omega arith),
        cell_same long 12 (omega arith),
        cell_same long 20 (omega arith),
        cell_same long 24 (omega arith),
        cell_same long 32 (omega arith),
        cell_same long 36 (omega arith),
      )

  pub same-tree-header : header s ≡ header t
  unfolding header header_checks
  same-tree-header =
      check-same (refuse_at no_blocks) _ _ _ _ _ _ _ (test-same same.header) (λ l.
      let long = leb-true header_bytes (length s) l in
      let two = (read-bounds s).0 in
      let magic : cell_at s 0 ≡ cell_at t 0 = cell_same long 0 (omega arith) in
      let total : total_size s ≡ total_size t = cell_same long 4 two in
      check-same (refuse_at no_blocks) _ _ _ _ _ _ _ (ap (λ (n : ℕ). eqb n 0xd00dfeed) magic) (λ _.
      check-same (refuse_at no_blocks) _ _ _ _ _ _ _ (ap (λ (n : ℕ). leb n largest_tree) total) (λ k.
      let small = leb-true (total_size s) largest_tree k in
      check-same (refuse_at no_blocks) _ _ _ _ _ _ _ (ap (leb header_bytes) total) (λ e.
      check-same (refuse_at no_blocks) _ _ _ _ _ _ _ (test-same (same.whole long small) ∙ ap (λ (n : ℕ). leb n (length t)) total) (λ _.
      later_same long small (leb-true header_bytes (total_size s) e))))))

  -- the blocks of an accepted header, and the tokens in them
  pub same-tree-blocks : (header s).number ≡ 0 → blocks_of s ≡ blocks_of t
  same-tree-blocks e =
      let z : (header t).number ≡ 0 = ap (λ (h : Placed Blocks). h.number) (sym same-tree-header) ∙ e in
      ap (λ (h : Placed Blocks). h.value) (sym (header-blocks s e) ∙ same-tree-header ∙ header-blocks t z)

  pub same-tree-tokens : (header s).number ≡ 0 → (at : ℕ) → tree_tokens s (blocks_of s) at ≡ tree_tokens t (blocks_of s) at
  same-tree-tokens e at =
      let lies = header-lies s e in
      let long : header_bytes ≤ length s = omega (arith, lies.start, lies.ordered, lies.end, lies.within) in
      let n = read_whole s lies.small in
      tree-tokens-below s t (bytes_read s) (same.first long) (blocks_of s) (omega (arith, lies.end)) (omega (arith, lies.limit)) at

  -- the walk, and what it finds
  judge-same : (b : Blocks) → tree_tokens s b b.start ≡ tree_tokens t b b.start → (v : Verdict) → judge s b v ≡ judge t b v
  unfolding layout_of
  judge-same b e accepted = rw e
  judge-same b e (refused m p) = refl

  after_same : (m p : ℕ) (b : Blocks) → (m ≡ 0 → tree_tokens s b b.start ≡ tree_tokens t b b.start)
      → after_header s (record { number = m; place = p; value = b }) ≡ after_header t (record { number = m; place = p; value = b })
  after_same zero p b h =
      let e = h refl in
      ap (λ (ts : List Token). judge s b (walk b.end before_root ts)) e ∙ judge-same b e (walk b.end before_root (tree_tokens t b b.start))
  after_same (suc m) p b h = refl

  pub same-tree-check : check_tree s ≡ check_tree t
  unfolding check_tree
  same-tree-check =
      after_same (header s).number (header s).place (header s).value (λ e. rw (header-blocks s e) (same-tree-tokens e (blocks_of s).start))
      ∙ ap (after_header t) same-tree-header

-- runs of one length that are the same as far as the total size
pub changed-behind : (s t : List ℕ) → length s ≡ length t → take (max 8 (total_size s)) s ≡ take (max 8 (total_size s)) t → SameTree s t
changed-behind s t e same =
    let n = (read-bounds s).1 in
    record {
      header = (λ h. omega arith, λ h. omega arith);
      first = λ h. sym (take-take (bytes_read s) (max 8 (total_size s)) s n) ∙ ap (take (bytes_read s)) same ∙ take-take (bytes_read s) (max 8 (total_size s)) t n;
      whole = λ h k. (λ l. omega arith, λ l. omega arith);
    }

-- bytes behind a tree that is lent whole
pub more-behind : (tree more : List ℕ) → header_bytes ≤ length tree → total_size tree ≤ length tree → SameTree tree (tree ++ more)
more-behind tree more long whole =
    let n = (read-bounds tree).1 in
    let e = length-append tree more in
    record {
      header = (λ h. omega arith, λ h. long);
      first = λ h. sym (take-append-le (bytes_read tree) tree more (omega arith));
      whole = λ h k. (λ l. omega arith, λ l. whole);
    }

-- the first bytes of an input, as many as the largest tree has
pub first-bytes : (input : List ℕ) → SameTree (take largest_tree input) input
first-bytes input =
    let s = take largest_tree input in
    let n = (read-bounds s).2 in
    let e = length-take largest_tree input in
    record {
      header = (λ h. omega arith, λ h. omega arith);
      first = λ h. take-take (bytes_read s) largest_tree input n;
      whole = λ h k. (λ l. omega arith, λ l. omega arith);
    }
