-- The header of a flattened tree, version 17 layout (document 01, "The walk": "Header checks, in order, with place").
use Rattle.std.specs.Prelude.{ℕ, ◌+◌, ◌%◌, Bool, List, [], ◌∷◌, leb, eqb, length, Result}
use Rattle.cells.specs.Cells.{cell_at}
use Rattle.refusal.specs.Refusal.{Fault, fault, Placed, placed, refuse_at, placed_of}
use Rattle.refusal.specs.Checks.{Check, check, first_fault}
use Rattle.header.specs.declared.Blocks.{Blocks}
use Rattle.refusal.specs.declared.RefusedAt.{RefusedAt}

-- the ten cells of the header
module _ (tree : List ℕ) where
  abbrev pub magic : ℕ
  magic = cell_at tree 0

  abbrev pub total_size : ℕ
  total_size = cell_at tree 4

  abbrev pub structure_offset : ℕ
  structure_offset = cell_at tree 8

  abbrev pub strings_offset : ℕ
  strings_offset = cell_at tree 12

  abbrev pub reserve_offset : ℕ
  reserve_offset = cell_at tree 16

  abbrev pub version : ℕ
  version = cell_at tree 20

  abbrev pub last_compatible : ℕ
  last_compatible = cell_at tree 24

  abbrev pub boot_cpu : ℕ
  boot_cpu = cell_at tree 28

  abbrev pub strings_size : ℕ
  strings_size = cell_at tree 32

  abbrev pub structure_size : ℕ
  structure_size = cell_at tree 36

abbrev pub header_bytes : ℕ
header_bytes = 40

-- "total size above 65,536"
abbrev pub largest_tree : ℕ
largest_tree = 65536

abbrev pub is_multiple_of4 : ℕ → Bool
is_multiple_of4 n = eqb (n % 4) 0

-- "structure or strings block not within 40 and total size; structure offset or size not a multiple of 4", at "structure block (8),
-- strings block (12)"
unfoldable pub block_checks : List ℕ → List (Check Fault)
block_checks tree =
    check (leb header_bytes (structure_offset tree)) (fault 5 8)
    ∷ check (leb (structure_offset tree + structure_size tree) (total_size tree)) (fault 5 8)
    ∷ check (is_multiple_of4 (structure_offset tree)) (fault 5 8)
    ∷ check (is_multiple_of4 (structure_size tree)) (fault 5 8)
    ∷ check (leb header_bytes (strings_offset tree)) (fault 5 12)
    ∷ check (leb (strings_offset tree + strings_size tree) (total_size tree)) (fault 5 12)
    ∷ []

-- "lent length (1, 0), magic (2, 0), total size (3, then 1; place 4), version (20), last compatible version (24)", and the blocks
unfoldable pub header_checks : List ℕ → List (Check Fault)
header_checks tree =
    check (leb header_bytes (length tree)) (fault 1 0)
    ∷ check (eqb (magic tree) 0xd00dfeed) (fault 2 0)
    ∷ check (leb (total_size tree) largest_tree) (fault 3 4)
    ∷ check (leb header_bytes (total_size tree)) (fault 1 4)
    ∷ check (leb (total_size tree) (length tree)) (fault 1 4)
    ∷ check (leb 17 (version tree)) (fault 4 20)
    ∷ check (leb (last_compatible tree) 17) (fault 4 24)
    ∷ block_checks tree

-- where the structure block and the strings block begin and end
unfoldable pub blocks_of : List ℕ → Blocks
blocks_of tree = record {
  start = structure_offset tree;
  end = structure_offset tree + structure_size tree;
  strings = strings_offset tree;
  limit = strings_offset tree + strings_size tree;
}

unfoldable pub no_blocks : Blocks
no_blocks = record { start = 0; end = 0; strings = 0; limit = 0 }

abbrev pub judged : List (Check Fault) → List ℕ → Placed Blocks
judged checks tree = first_fault (refuse_at no_blocks) checks (placed (blocks_of tree))

unfoldable pub header : List ℕ → Placed Blocks
header tree = judged (header_checks tree) tree

-- what an answer says: the number of document 01, the place, and the blocks
abbrev pub header_outcome : Result Blocks RefusedAt → Placed Blocks
header_outcome r = placed_of (λ (b : Blocks). b) no_blocks r
