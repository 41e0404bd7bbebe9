-- Two lists of writable items that are encoded as the same bytes are the same. Assumes nothing.
use mathlib.Core.Path.{◌≡◌, refl, sym, ap, ap₂, ◌∙◌}
use mathlib.Core.List.{List, [], ◌∷◌, ◌++◌, append_assoc}
use Prim.Native.Nat.{ℕ, suc, ◌+◌, ◌*◌, ◌-◌, ◌/◌, ◌%◌}
use native.Mathlib.Omega.{arith}
use lib.Dec.{eqb}
use lib.ListN.{length, take, drop, length-append}
use lib.Seq.{take_at, take-append_seam, drop-append_seam}
use Rattle.cells.specs.Cells.{cell_at}
use Rattle.cells.specs.Bytes.{cell_bytes, Each}
use Rattle.cells.proofs.Lists.{each_append}
use Rattle.strings.specs.Strings.{ended, text_of}
use Rattle.tokens.specs.Steps.{pick, padded}
use Rattle.encoding.specs.Items.{Item, nop_item, begin_item, end_node_item, property_item, end_item, item_bytes, encode, whole_block, Writable}
use Rattle.encoding.specs.StringsBlock.{characters}
use Rattle.encoding.proofs.Sizes.{size_low, length-item}
use Rattle.encoding.proofs.TextReading.{text-first}

-- the item that bytes begin with, from its first cell
abbrev begin_in : List ℕ → Item ℕ
begin_in l =
    let name = characters (text_of (drop 4 l)) in
    begin_item name (take (padded (length name + 1) - (length name + 1)) (drop (suc (length name)) (drop 4 l)))

abbrev property_in : List ℕ → Item ℕ
property_in l =
    let size = cell_at l 4 in
    property_item (cell_at l 8) (take size (drop 12 l)) (take (padded size - size) (drop size (drop 12 l)))

item_in : List ℕ → Item ℕ
item_in l =
    pick (eqb (cell_at l 0) 1) (begin_in l)
    (pick (eqb (cell_at l 0) 2) end_node_item (pick (eqb (cell_at l 0) 3) (property_in l) (pick (eqb (cell_at l 0) 4) nop_item end_item)))

same-cell : (n : ℕ) → ((n / 16777216 * 256 + n / 65536 % 256) * 256 + n / 256 % 256) * 256 + n % 256 ≡ n
same-cell n = omega arith

after-name : (name l : List ℕ) → drop (suc (length name)) (name ++ 0 ∷ l) ≡ l
after-name [] l = refl
after-name (b ∷ name) l = after-name name l

item-in : (item : Item ℕ) (rest : List ℕ) → Writable item → item_in (item_bytes item ++ rest) ≡ item
unfolding item_in item_bytes cell_bytes cell_at
item-in nop_item rest h = refl
item-in (begin_item name padding) rest h =
    let n : ℕ = padded (length name + 1) - (length name + 1) in
    let f : length padding ≡ n = omega (arith, h.1) in
    let e = append_assoc name (0 ∷ padding) rest in
    let t : text_of (name ++ 0 ∷ (padding ++ rest)) ≡ ended name = text-first name (padding ++ rest) h.0 in
    rw (e, t, after-name name (padding ++ rest), take_at padding rest n f)
item-in end_node_item rest h = refl
item-in (property_item offset value padding) rest h =
    let n : ℕ = padded (length value) - length value in
    let f : length padding ≡ n = omega arith in
    let e = append_assoc value padding rest in
    rw (same-cell (length value), same-cell offset, e, take-append_seam value (padding ++ rest), drop-append_seam value (padding ++ rest), take_at padding rest n f)
item-in end_item rest h = refl

pub encode-unique : (a b : List (Item ℕ)) → Each Writable a → Each Writable b → encode a ≡ encode b → a ≡ b
unfolding encode
encode-unique [] [] h k e = refl
encode-unique [] (y ∷ b) h k e =
    absurd (omega (arith, ap length e, length-append (item_bytes y) (encode b), length-item y k.0, size_low y))
encode-unique (x ∷ a) [] h k e =
    absurd (omega (arith, ap length e, length-append (item_bytes x) (encode a), length-item x h.0, size_low x))
encode-unique (x ∷ a) (y ∷ b) h k e =
    let same : x ≡ y = sym (item-in x (encode a) h.0) ∙ ap item_in e ∙ item-in y (encode b) k.0 in
    let rest : encode a ≡ encode b =
    sym (drop-append_seam (item_bytes x) (encode a))
    ∙ ap (drop (length (item_bytes x))) (e ∙ ap (λ (z : Item ℕ). item_bytes z ++ encode b) (sym same))
    ∙ drop-append_seam (item_bytes x) (encode b) in
    ap₂ (λ (z : Item ℕ) (zs : List (Item ℕ)). z ∷ zs) same (encode-unique a b h.1 k.1 rest)

-- the same for whole blocks
same-front : {A : Type 0} (z : A) (a b : List A) → a ++ z ∷ [] ≡ b ++ z ∷ [] → a ≡ b
same-front z a b e =
    let l : length a ≡ length b = omega (arith, ap length e, length-append a (z ∷ []), length-append b (z ∷ [])) in
    sym (take-append_seam a (z ∷ [])) ∙ ap (take (length a)) e ∙ take_at b (z ∷ []) (length a) (sym l)

pub block-unique : (a b : List (Item ℕ)) → Each Writable a → Each Writable b → encode (whole_block a) ≡ encode (whole_block b) → a ≡ b
block-unique a b h k e =
    same-front end_item a b
    (encode-unique (whole_block a) (whole_block b) (each_append Writable a (end_item ∷ []) h (tt, tt)) (each_append Writable b (end_item ∷ []) k (tt, tt)) e)
