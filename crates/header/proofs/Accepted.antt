-- What the header of an accepted tree says of its blocks. Assumes nothing.
use mathlib.Core.Path.{◌≡◌}
use mathlib.Core.List.{List}
use Prim.Native.Nat.{ℕ, ◌+◌, ◌%◌, ◌≤◌}
use native.Mathlib.Omega.{arith}
use lib.Dec.{leb→le, eqb→eq}
use lib.ListN.{length}
use Rattle.refusal.specs.Refusal.{placed, refuse_at}
use Rattle.refusal.proofs.Checks.{Passes, answered-at, passes}
use Rattle.header.specs.Header.{structure_offset, structure_size, strings_offset, strings_size, total_size, header_bytes, largest_tree, block_checks, header_checks, blocks_of, no_blocks, header}
use Rattle.header.specs.declared.Blocks.{Blocks}

-- both blocks lie between the header and the total size, and the structure block begins and ends at multiples of 4
pub record Lies (tree : List ℕ) (b : Blocks) : Type 0 where
  pub within : total_size tree ≤ length tree
  pub small : total_size tree ≤ largest_tree
  pub start : header_bytes ≤ b.start
  pub ordered : b.start ≤ b.end
  pub end : b.end ≤ total_size tree
  pub aligned : b.start % 4 ≡ 0
  pub whole : b.end % 4 ≡ 0
  pub strings : header_bytes ≤ b.strings
  pub nested : b.strings ≤ b.limit
  pub limit : b.limit ≤ total_size tree

passes-lies : (tree : List ℕ) → Passes (header_checks tree) → Lies tree (blocks_of tree)
unfolding header_checks block_checks blocks_of
passes-lies tree p =
    let total = leb→le (total_size tree) largest_tree p.1.1.0 in
    let lent = leb→le (total_size tree) (length tree) p.1.1.1.1.0 in
    let q = p.1.1.1.1.1.1.1 in
    let offset = eqb→eq (structure_offset tree % 4) 0 q.1.1.0 in
    let size = eqb→eq (structure_size tree % 4) 0 q.1.1.1.0 in
    record {
      within = lent;
      small = total;
      start = leb→le header_bytes (structure_offset tree) q.0;
      ordered = omega arith;
      end = leb→le (structure_offset tree + structure_size tree) (total_size tree) q.1.0;
      aligned = offset;
      whole = omega (arith, offset, size);
      strings = leb→le header_bytes (strings_offset tree) q.1.1.1.1.0;
      nested = omega arith;
      limit = leb→le (strings_offset tree + strings_size tree) (total_size tree) q.1.1.1.1.1.0;
    }

-- a header that is not refused
pub header-lies : (tree : List ℕ) → (header tree).number ≡ 0 → Lies tree (blocks_of tree)
unfolding header header_checks block_checks
header-lies tree e = passes-lies tree (answered-at no_blocks (blocks_of tree) (header_checks tree) (omega arith) e)

pub header-blocks : (tree : List ℕ) → (header tree).number ≡ 0 → header tree ≡ placed (blocks_of tree)
unfolding header header_checks block_checks
header-blocks tree e =
    passes (refuse_at no_blocks) (header_checks tree) (placed (blocks_of tree)) (answered-at no_blocks (blocks_of tree) (header_checks tree) (omega arith) e)
