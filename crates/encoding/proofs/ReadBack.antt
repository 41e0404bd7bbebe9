-- The tokens of an encoded list of items are those items at their places. Assumes nothing.
use mathlib.Core.Path.{◌≡◌, sym, ap, ◌∙◌}
use mathlib.Core.List.{List, [], ◌∷◌, ◌++◌}
use Prim.Native.Nat.{ℕ, ◌+◌, ◌≤◌}
use native.Mathlib.Omega.{arith}
use lib.ListN.{length, length-append}
use Rattle.cells.specs.Bytes.{Each, Stands}
use Rattle.cells.proofs.Standing.{stands-first, stands-next, stands_after}
use Rattle.strings.specs.Strings.{Text}
use Rattle.tokens.specs.Tokens.{Token, end, tokens}
use Rattle.encoding.specs.Items.{Item, end_item, item_bytes, encode, whole_block, item_size, item_token, item_tokens, Writable, NotEnd}
use Rattle.encoding.proofs.Sizes.{length-item, length-encode, encode-append, tokens_append}
use Rattle.encoding.proofs.ItemReading.{item-read, end_read}

module _ (s : List ℕ) (stop : ℕ) (names : ℕ → Text) where
  -- items without an end item, and then what follows them
  pub items-read : (at : ℕ) (items : List (Item ℕ)) → Each Writable items → Each NotEnd items
      → Stands s at (encode items) → at + length (encode items) ≤ stop
      → tokens s stop names at ≡ item_tokens names at items ++ tokens s stop names (at + length (encode items))
  unfolding encode item_tokens
  items-read at [] h k w r = let e : at + 0 ≡ at = omega arith in rw e
  items-read at (item ∷ items) h k w r =
      let next : ℕ = at + item_size item in
      let i = length-item item h.0 in
      let l = length-append (item_bytes item) (encode items) in
      let e : next + length (encode items) ≡ at + length (item_bytes item ++ encode items) = omega arith in
      item-read s stop names at item h.0 k.0 (stands-first s at (item_bytes item) (encode items) w) (omega arith)
      ∙ ap (λ (ts : List Token). item_token names at item ∷ ts)
      (items-read next items h.1 k.1 (stands_after s at next (item_bytes item) (encode items) (omega arith) w) (omega arith) ∙ rw e)

  -- a whole structure block
  pub block_read : (at : ℕ) (items : List (Item ℕ)) → Each Writable items → Each NotEnd items
      → Stands s at (encode (whole_block items)) → at + length (encode (whole_block items)) ≤ stop
      → tokens s stop names at ≡ item_tokens names at (whole_block items)
  unfolding encode item_size item_tokens item_token
  block_read at items h k w r =
      let last : List ℕ = item_bytes end_item ++ [] in
      let e : encode (items ++ end_item ∷ []) ≡ encode items ++ last = encode-append items (end_item ∷ []) in
      let v : Stands s at (encode items ++ last) = rw e at w in
      let l : length (encode (items ++ end_item ∷ [])) ≡ length (encode items) + length last = ap length e ∙ length-append (encode items) last in
      let n : length last ≡ 4 = omega (arith, length-append (item_bytes end_item) [], length-item end_item tt) in
      let next : ℕ = at + length (encode items) in
      let i = length-encode items h in
      items-read at items h k (stands-first s at (encode items) last v) (omega arith)
      ∙ ap (λ (ts : List Token). item_tokens names at items ++ ts)
      (end_read s stop names next (stands-first s next (item_bytes end_item) [] (stands-next s at (encode items) last v)) (omega arith))
      ∙ ap (λ (m : ℕ). item_tokens names at items ++ end (at + m) ∷ []) i
      ∙ sym (tokens_append names at items (end_item ∷ []))
