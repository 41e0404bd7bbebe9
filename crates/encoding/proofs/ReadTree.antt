-- The tokens of a tree whose blocks hold items and their strings are those items, with their own names. Assumes nothing.
use mathlib.Core.Path.{◌≡◌, sym, ap, ◌∙◌}
use mathlib.Core.List.{List, [], map}
use Prim.Native.Nat.{ℕ, ◌+◌, ◌≤◌}
use lib.ListN.{length}
use Rattle.cells.specs.Bytes.{Each, Stands}
use Rattle.cells.proofs.Lists.{each-implies}
use Rattle.stringlist.specs.StringList.{NotZero, strings_bytes}
use Rattle.strings.specs.Strings.{ended}
use Rattle.header.specs.declared.Blocks.{Blocks}
use Rattle.properties.specs.Properties.{name_at}
use Rattle.walk.specs.Walk.{name_in, tree_tokens}
use Rattle.encoding.specs.Items.{Item, whole_block, item_tokens, Writable, NotEnd}
use Rattle.encoding.specs.StringsBlock.{offset_in, property_names, strings_of, renamed}
use Rattle.encoding.specs.TreeItems.{TreeHolds}
use Rattle.encoding.proofs.ReadBack.{block_read}
use Rattle.encoding.proofs.NameOffsets.{Listed, names-listed, each-names, name-read}
use Rattle.encoding.proofs.Renaming.{names-whole, writable-renamed, not-end-renamed, whole-renamed, ReadAs, tokens-renamed}

module _ (tree : List ℕ) (b : Blocks) where
  -- each name of a strings block is read at its offset
  pub names-read : (names : List (List ℕ)) → Each (Each NotZero) names
      → Stands tree b.strings (strings_bytes names) → b.strings + length (strings_bytes names) ≤ b.limit
      → (name : List ℕ) → Listed names name → name_in tree b (offset_in names name) ≡ ended name
  unfolding name_at
  names-read names z w r name h = name-read tree b.limit name names b.strings z w r h

  -- a tree whose blocks hold items
  pub tree-read : (items : List (Item (List ℕ))) → Each Writable items → Each NotEnd items → Each (Each NotZero) (property_names items)
      → TreeHolds tree b (whole_block items)
      → tree_tokens tree b b.start ≡ item_tokens ended b.start (whole_block items)
  tree-read items h k z t =
      let names : List (List ℕ) = strings_of (whole_block items) in
      let f : List ℕ → ℕ = offset_in names in
      let e = whole-renamed f items in
      let zeros : Each (Each NotZero) names = each-names (Each NotZero) [] (property_names (whole_block items)) tt (rw (names-whole items) z) in
      block_read tree b.end (name_in tree b) b.start (map (renamed f) items) (writable-renamed f items h) (not-end-renamed f items k) (rw e at t.structure) (rw e at t.structure_fits)
      ∙ ap (item_tokens (name_in tree b) b.start) (sym e)
      ∙ tokens-renamed f (name_in tree b) ended b.start (whole_block items)
      (each-implies (Listed names) (ReadAs f (name_in tree b) ended) (names-read names zeros t.strings t.strings_fit)
      (property_names (whole_block items)) (names-listed [] (property_names (whole_block items))))
