-- Bytes whose tokens are complete are the encoding of items. Assumes nothing.
use mathlib.Core.Path.{◌≡◌, refl, ap, subst}
use mathlib.Core.List.{List, [], ◌∷◌}
use Prim.Native.Nat.{ℕ, zero, suc, ◌+◌, ◌-◌, ◌%◌, ◌<◌, ◌≤◌}
use native.Mathlib.Omega.{arith}
use lib.ListN.{length, length-append}
use Rattle.cells.specs.Cells.{cell_at}
use Rattle.cells.specs.Bytes.{IsByte, Each, Stands}
use Rattle.cells.proofs.Lists.{each_append}
use Rattle.cells.proofs.Standing.{stands-none, stands-joined}
use Rattle.strings.specs.Strings.{Text, ended, unended, text_at}
use Rattle.tokens.specs.Steps.{padded}
use Rattle.tokens.specs.Tokens.{after_begin, tokens}
use Rattle.tokens.specs.declared.Step.{Step}
use Rattle.tokens.proofs.TokenList.{Is, begins, ends, holds, skips, stops, cut, unknown, none, view, follow, tokens-step}
use Rattle.encoding.specs.Items.{Item, nop_item, begin_item, end_node_item, property_item, end_item, item_bytes, encode, whole_block, item_size, Writable, NotEnd}
use Rattle.encoding.specs.StringsBlock.{name_of, property_names, Ended, NameEnds}
use Rattle.encoding.proofs.Sizes.{size-multiple, size_low, length-item}
use Rattle.encoding.proofs.AcceptedTokens.{Complete}
use Rattle.encoding.proofs.ReadStands.{ItemAt, nop-at, end-node-at, end-at, begin-at, property-at}

-- the bytes from a place to the block's end are the encoding of items
pub record Decoded (s : List ℕ) (stop : ℕ) (names : ℕ → Text) (at : ℕ) : Type 0 where
  pub items : List (Item ℕ)
  pub writable : Each Writable items
  pub not_end : Each NotEnd items
  pub stands : Stands s at (encode (whole_block items))
  pub reaches : at + length (encode (whole_block items)) ≡ stop
  pub named : Each (NameEnds names) (property_names items)

module _ (s : List ℕ) (stop : ℕ) (names : ℕ → Text) (at : ℕ) where
  -- the end item in the last cell
  decoded-end : ItemAt s stop at end_item → at + 4 ≡ stop → Decoded s stop names at
  unfolding encode property_names item_size
  decoded-end i e =
      let l = length-item end_item tt in
      record {
        items = [];
        writable = tt;
        not_end = tt;
        stands = stands-joined s at stop (item_bytes end_item) [] (omega arith) i.stands (stands-none s stop);
        reaches = omega (arith, length-append (item_bytes end_item) []);
        named = tt;
      }

  -- an item, and then what follows it
  decoded-more : (item : Item ℕ) → ItemAt s stop at item → NotEnd item → Each (NameEnds names) (name_of item) → Decoded s stop names (at + item_size item) → Decoded s stop names at
  unfolding encode property_names
  decoded-more item i k n d =
      let l = length-item item i.writable in
      let r = d.reaches in
      record {
        items = item ∷ d.items;
        writable = (i.writable, d.writable);
        not_end = (k, d.not_end);
        stands = stands-joined s at (at + item_size item) (item_bytes item) (encode (whole_block d.items)) (omega arith) i.stands d.stands;
        reaches = omega (arith, length-append (item_bytes item) (encode (whole_block d.items)));
        named = each_append (NameEnds names) (name_of item) (property_names d.items) n d.named;
      }

module _ (s : List ℕ) (bytes : Each IsByte s) (stop : ℕ) (fits : stop ≤ length s) (whole : stop % 4 ≡ 0) (names : ℕ → Text) where
  -- the item at a place, from the token there
  module _ (at : ℕ) (aligned : at % 4 ≡ 0)
      (rest : (next : ℕ) → at + 4 ≤ next → at + 4 ≤ stop → next % 4 ≡ 0 → Complete stop (tokens s stop names next) → Decoded s stop names next) where
    more : (item : Item ℕ) → ItemAt s stop at item → NotEnd item → Each (NameEnds names) (name_of item) → Complete stop (tokens s stop names (at + item_size item)) → Decoded s stop names at
    more item i k n c =
        let w = i.within in
        let low = size_low item in
        decoded-more s stop names at item i k n (rest (at + item_size item) (omega arith) (omega arith) (omega (arith, size-multiple item)) c)

    by_token : {x : Step} → Is s stop at x → Complete stop (follow s stop names (tokens s stop names) x) → Decoded s stop names at
    unfolding item_size
    by_token (begins r e) c = go (text_at s (at + 4) stop) refl c.0 c.1
      where
        go : (t : Text) → text_at s (at + 4) stop ≡ t → Ended t → Complete stop (after_begin (tokens s stop names) (at + 4) t) → Decoded s stop names at
        go (ended name) t u c =
            let g = begin-at s bytes stop at fits name aligned whole r e t in
            let p : at + 4 + padded (length name + 1) ≡ at + (4 + padded (length name + 1)) = omega arith in
            more (begin_item name g.0) g.1 tt tt (rw p at c)
        go unended t u c = absurd u
    by_token (ends r e) c = more end_node_item (end-node-at s bytes stop at fits r e) tt tt c
    by_token (holds r e) c =
        let g = property-at s bytes stop at fits r e in
        let l = ap padded g.2 in
        let p : at + 12 + padded (cell_at s (at + 4)) ≡ at + (12 + padded (length g.0)) = omega arith in
        more (property_item (cell_at s (at + 8)) g.0 g.1) g.3 tt (c.0, tt) (rw p at c.1)
    by_token (skips r e) c = more nop_item (nop-at s bytes stop at fits r e) tt tt c
    by_token (stops r e) c = decoded-end s stop names at (end-at s bytes stop at fits r e) c
    by_token (cut r e k) c = absurd c
    by_token (unknown r n1 n2 n3 n4 n9) c = absurd c
    by_token (none r) c = absurd c

  decode-within : (n at : ℕ) → stop - at < n → at % 4 ≡ 0 → Complete stop (tokens s stop names at) → Decoded s stop names at
  decode-within zero at h a c = absurd (omega arith)
  decode-within (suc n) at h a c =
      by_token at a (λ next k r m d. decode-within n next (omega arith) m d) (view s stop at)
      (subst (Complete stop) (tokens-step s stop names at refl) c)

  pub decode : (at : ℕ) → at % 4 ≡ 0 → Complete stop (tokens s stop names at) → Decoded s stop names at
  decode at a c = decode-within (suc (stop - at)) at (omega arith) a c
