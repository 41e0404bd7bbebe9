-- The structure block of a tree that the header and the walk accept is the encoding of items, and of no others, and its tokens are those
-- items. Assumes nothing.
use mathlib.Core.Path.{◌≡◌, sym, ap, ◌∙◌}
use mathlib.Core.List.{List, [], ◌∷◌}
use Prim.Native.Nat.{ℕ, ◌-◌, ◌≤◌}
use native.Mathlib.Omega.{arith}
use lib.ListN.{length, take, drop}
use Rattle.cells.specs.Bytes.{IsByte, Each}
use Rattle.cells.proofs.Lists.{each_first}
use Rattle.cells.proofs.Standing.{stands-take, stands-bytes}
use Rattle.header.specs.declared.Blocks.{Blocks}
use Rattle.header.proofs.Accepted.{Lies}
use Rattle.walk.specs.Walk.{before_root, accepted, walk, name_in, tree_tokens}
use Rattle.encoding.specs.Items.{Item, end_item, encode, whole_block, InBytes}
use Rattle.encoding.specs.TreeItems.{StructureIs}
use Rattle.encoding.proofs.ByteRange.{of-bytes}
use Rattle.encoding.proofs.ReadBack.{block_read}
use Rattle.encoding.proofs.AcceptedTokens.{accepted-complete}
use Rattle.encoding.proofs.Unique.{block-unique}
use Rattle.encoding.proofs.Decoding.{decode}

pub accepted-items : (tree : List ℕ) (b : Blocks) → Each IsByte tree → Lies tree b
    → walk b.end before_root (tree_tokens tree b b.start) ≡ accepted
    → (items : List (Item ℕ)) × StructureIs tree b items
accepted-items tree b bytes lies walked =
    let complete = accepted-complete b.end before_root (tree_tokens tree b b.start) walked in
    let fits : b.end ≤ length tree = omega (arith, lies.end, lies.within) in
    let d = decode tree bytes b.end fits lies.whole (name_in tree b) b.start lies.aligned complete in
    let items = d.items in
    let block = encode (whole_block items) in
    let l : length block ≡ b.end - b.start = omega (arith, d.reaches) in (
      items,
      record {
        writable = d.writable;
        in_bytes = each_first InBytes items (end_item ∷ []) (of-bytes (whole_block items) (stands-bytes tree b.start block d.stands bytes));
        not_end = d.not_end;
        named = d.named;
        bytes = sym (stands-take tree b.start block d.stands) ∙ ap (λ (n : ℕ). take n (drop b.start tree)) l;
        tokens = block_read tree b.end (name_in tree b) b.start items d.writable d.not_end d.stands (omega (arith, d.reaches));
      },
    )

-- there are no others
pub same-items : (tree : List ℕ) (b : Blocks) (items others : List (Item ℕ)) → StructureIs tree b items → StructureIs tree b others → items ≡ others
same-items tree b items others i o = block-unique items others i.writable o.writable (i.bytes ∙ sym o.bytes)
