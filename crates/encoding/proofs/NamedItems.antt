-- The items of an accepted tree with the characters of their names: they are the tokens, and can be written with new strings.
-- Assumes nothing.
use mathlib.Core.Path.{◌≡◌, refl, sym, ap, ◌∙◌}
use mathlib.Core.List.{List}
use Prim.Native.Nat.{ℕ, ◌+◌}
use Rattle.cells.specs.Bytes.{Each}
use Rattle.cells.proofs.Lists.{each-implies, each_map}
use Rattle.stringlist.specs.StringList.{NotZero}
use Rattle.strings.specs.Strings.{Text, ended, unended, text_at}
use Rattle.header.specs.declared.Blocks.{Blocks}
use Rattle.properties.specs.Properties.{name_at}
use Rattle.walk.specs.Walk.{name_in, tree_tokens}
use Rattle.encoding.specs.Items.{Item, whole_block, item_tokens, Writable, NotEnd}
use Rattle.encoding.specs.StringsBlock.{property_names, characters, Ended, NameEnds, with_characters}
use Rattle.encoding.specs.TreeItems.{StructureIs}
use Rattle.encoding.proofs.Renaming.{names-whole, names-renamed, whole-renamed, writable-renamed, not-end-renamed, ReadAs, tokens-renamed}
use Rattle.encoding.proofs.ReadStands.{text-stands}

-- a string that ends is its characters, and none of them is zero
ended-characters : (t : Text) → Ended t → ended (characters t) ≡ t
ended-characters (ended cs) h = refl
ended-characters unended h = absurd h

no_zero : (s : List ℕ) (from stop : ℕ) → Each NotZero (characters (text_at s from stop))
no_zero s from stop = go (text_at s from stop) refl
  where
    go : (t : Text) → text_at s from stop ≡ t → Each NotZero (characters t)
    go (ended cs) e = (text-stands s from stop cs e).0
    go unended e = tt

module _ (tree : List ℕ) (b : Blocks) (items : List (Item ℕ)) (is : StructureIs tree b items) where
  name_of : ℕ → List ℕ
  name_of offset = characters (name_in tree b offset)

  pub named-tokens : tree_tokens tree b b.start ≡ item_tokens ended b.start (whole_block (with_characters (name_in tree b) items))
  unfolding name_of
  named-tokens =
      is.tokens
      ∙ sym (tokens-renamed name_of ended (name_in tree b) b.start (whole_block items)
      (rw (names-whole items)
      (each-implies (NameEnds (name_in tree b)) (ReadAs name_of ended (name_in tree b)) (λ offset h. ended-characters (name_in tree b offset) h) (property_names items) is.named)))
      ∙ ap (item_tokens ended b.start) (whole-renamed name_of items)

  pub named-writable : Each Writable (with_characters (name_in tree b) items)
  unfolding name_of
  named-writable = writable-renamed name_of items is.writable

  pub named-not-end : Each NotEnd (with_characters (name_in tree b) items)
  unfolding name_of
  named-not-end = not-end-renamed name_of items is.not_end

  pub named-no-zero : Each (Each NotZero) (property_names (with_characters (name_in tree b) items))
  unfolding name_of name_at
  named-no-zero =
      rw (names-renamed name_of items)
      (each_map (NameEnds (name_in tree b)) (Each NotZero) name_of (λ offset h. no_zero tree (b.strings + offset) b.limit) (property_names items) is.named)
