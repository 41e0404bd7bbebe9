-- Demand 2, in its own words: what is read of a tree, of a list of strings, of the values of a CPU node's properties and of unit text, over
-- the definitions that the promises cite. Each request adds its field.
use Rattle.std.specs.Prelude.{Option, None, Some}
use Rattle.std.specs.Prelude.{ℕ, ◌-◌, ◌^◌, ◌≤◌, ◌<◌, max, ◌≡◌, true, List, [], ◌∷◌, ◌++◌, map, ◌↔◌, length, take}
use Rattle.refusal.specs.Refusal.{Outcome, Placed, answer, refuse, refuse_at, fault}
use Rattle.refusal.specs.Checks.{first_fault, fault_of}
use Rattle.cells.specs.Cells.{word_at, cells_in}
use Rattle.cells.specs.Bytes.{Each, IsByte}
use Rattle.stringlist.specs.StringList.{NotZero, strings_bytes, AreStrings, StandsFirst, strings_in, string_place}
use Rattle.unit.specs.Unit.{read_unit, write_unit, text_written}
use Rattle.unit.specs.Shortest.{Shortest}
use Rattle.sizes.specs.declared.SizeTable.{SizeTable}
use Rattle.sizes.specs.Sizes.{no_size, size_only, size_or_none, radix_size, plain_checks, size_checks, size_table, no_sizes, page_sizes, segment_sizes}
use Rattle.sizes.specs.SizeCells.{SizeCells, places_in}
use Rattle.segments.specs.Segments.{table_of, segment_pages}
use Rattle.segments.specs.Encoded.{Segment, descriptor_of, Encodes}
use Rattle.radix.specs.declared.RadixEncoding.{RadixEncoding}
use Rattle.radix.specs.declared.RadixTable.{RadixTable}
use Rattle.radix.specs.Radix.{radix_table, radix_encodings}
use Rattle.radix.specs.RadixPairs.{RadixPairs}
use Rattle.attributes.specs.declared.PaTable.{PaTable}
use Rattle.attributes.specs.declared.PiTable.{PiTable}
use Rattle.attributes.specs.Attributes.{attribute_checks, pa_table, edition_first, edition_later, known_bytes, no_attributes, pa_features, pi_table, pi_features, bus_frequency}
use Rattle.attributes.specs.Described.{Attribute, Describes}
use Rattle.attributes.specs.Reserved.{Agree, NothingLater}
use Rattle.header.specs.Header.{total_size, header_bytes, largest_tree, blocks_of, header}
use Rattle.walk.specs.Grammar.{without_nop_tokens, Tree}
use Rattle.walk.specs.Faults.{all_tokens}
use Rattle.walk.specs.Checked.{check_tree}
use Rattle.walk.specs.TotalSize.{SameTree}
use Rattle.strings.specs.Strings.{ended}
use Rattle.names.specs.Names.{most_property_name, is_property_name}
use Rattle.lookup.specs.Lookup.{lookup, reason}
use Rattle.lookup.specs.LooksUp.{LooksUp}
use Rattle.record.specs.declared.Record.{Record}
use Rattle.record.specs.declared.Property.TheVariants.{HwcapBitNr}
use Rattle.record.specs.Record.{no_features, feature_at}
use Rattle.record.specs.Cells.{cell}
use Rattle.nodes.specs.Nodes.{node_at}
use Rattle.nodes.specs.Values.{value_of}
use Rattle.reading.specs.Reading.{containers_of, read_record}
use Rattle.reading.specs.Accepted.{container_of, features_of, ContainerStrings, Accepted}
use Rattle.reading.specs.Ends.{ReadEnds}
use Rattle.reading.specs.Resolved.{Holds, CapabilityHeld, Zeroed, Resolved}
use Rattle.answers.specs.Answers.{place_outcome}
use Rattle.listing.specs.Listing.{listing}

-- "The record read .. [is that] which the Devicetree Specification and the bindings define, as document 01 condenses them": what a
-- reader answers of a tree
pub record Demand2Tree (read : List ℕ → Placed Record) (tree : List ℕ) : Type 0 where
  -- the header is not refused, and the tokens of the structure block, without NOPs, are those of one tree
  pub walked : (check_tree tree).number ≡ 0 ↔ (((header tree).number ≡ 0) × Tree (blocks_of tree).end (without_nop_tokens (all_tokens tree)))
  -- then one container, with its properties, and features, with theirs, whose phandles and dependencies are as document 01 has them
  pub accepted : (read tree).number ≡ 0 ↔ Accepted tree
  -- (A3) "11 stays for all else": one container, whose strings are not a container's, is 11 at its begin token
  pub else_refused : (check_tree tree).number ≡ 0 → length (containers_of tree (blocks_of tree)) ≡ 1 → (ContainerStrings (container_of tree) → ⊥)
      → read tree ≡ refuse_at no_features (fault 11 (container_of tree).at)
  -- a tree that is not so is refused by the header, at the first faulty token, or by the first check that does not hold
  pub ends : ReadEnds tree (read tree)
  -- the record holds the cells of the container and of each feature, and which were given; what is not used is zero; each dependency is
  -- the position of the one feature that carries the phandle
  pub holds : (read tree).number ≡ 0 → Holds (container_of tree) (read tree).value
  pub zeroed : (read tree).number ≡ 0 → Zeroed (read tree).value
  pub resolved : (read tree).number ≡ 0 → Resolved (features_of tree) (read tree).value
  -- (A2) "The feature record now holds either a bit number or none"
  pub capability : (read tree).number ≡ 0 → (i : ℕ) → i < length (features_of tree)
      → CapabilityHeld (value_of (node_at (features_of tree) i) "hwcap-bit-nr") (cell (feature_at (read tree).value i) HwcapBitNr)
  -- "Bytes after the total size are not read": neither for the record nor for the list; the lister reads 65,536 bytes of its input
  pub behind : (other : List ℕ) → SameTree tree other → read tree ≡ read other
  pub list_behind : (other : List ℕ) → SameTree tree other → listing tree ≡ listing other
  pub list_first : listing (take largest_tree tree) ≡ listing tree
  -- bytes behind the total size that are others, and bytes that follow
  pub changed : (other : List ℕ) → length tree ≡ length other → take (max 8 (total_size tree)) tree ≡ take (max 8 (total_size tree)) other → SameTree tree other
  pub followed : (more : List ℕ) → header_bytes ≤ length tree → total_size tree ≤ length tree → SameTree tree (tree ++ more)

-- a property of a CPU node: where it is found, and else the reason
pub record Demand2Lookup (cpu parent strings name : List ℕ) : Type 0 where
  pub looks_up : LooksUp cpu parent strings name (lookup cpu parent strings name) (reason cpu parent strings name)
  -- what is no property name is not found, (A13) one of 64 characters or more in particular
  pub no_name : (is_property_name (ended name) ≡ true → ⊥) → lookup cpu parent strings name ≡ None
  pub long_name : most_property_name < length name → lookup cpu parent strings name ≡ None

-- (A3) a string in a list, as it is answered of any list and text
pub record Demand2List (find : List ℕ → List ℕ → Outcome ℕ) (list text : List ℕ) : Type 0 where
  -- "at which place of the list the string first stands, counted from 0, or that it doesn't stand there"
  pub stands : (i : ℕ) → (find list text ≡ answer i) ↔ StandsFirst list text (Some i)
  pub stands_not : (find list text ≡ refuse 0 10) ↔ StandsFirst list text None
  -- strings without zero bytes, each with its zero byte, are the strings of their bytes, and no others are
  pub found_again : (strings : List (List ℕ)) → Each (Each NotZero) strings → strings_in (strings_bytes strings) ≡ strings
  pub once : (a b : List (List ℕ)) → AreStrings list a → AreStrings list b → a ≡ b
  -- "a list whose last string lacks its zero byte contains nothing", and neither does a list of no bytes
  pub cut_short : (b : ℕ) → NotZero b → find (list ++ b ∷ []) text ≡ refuse 0 10
  pub empty : find [] text ≡ refuse 0 10
  -- a text with a zero byte stands nowhere
  pub zero_text : (Each NotZero text → ⊥) → find list text ≡ refuse 0 10
  -- what follows the place changes nothing; nor does a string that stands in the list, put behind it once more, change the place of any
  pub kept : (before after : List (List ℕ)) → Each (Each NotZero) before → Each (Each NotZero) after
      → (i : ℕ) → find (strings_bytes before) text ≡ answer i → find (strings_bytes (before ++ after)) text ≡ answer i
  pub repeated : (strings : List (List ℕ)) (t : List ℕ) → Each (Each NotZero) strings → (i : ℕ) → find (strings_bytes strings) t ≡ answer i
      → find (strings_bytes (strings ++ t ∷ [])) text ≡ find (strings_bytes strings) text

-- sizes in plain cells, by how one cell reads: accepted exactly when the bytes are those of 1 to 16 cells with sizes within bounds, strictly
-- ascending, and these are then answered, each in its place; else the first check that does not hold refuses
pub record Demand2Sizes (rule : ℕ → Option ℕ) (read : List ℕ → Outcome SizeTable) (value : List ℕ) : Type 0 where
  pub accepted : Each IsByte value → (read value).number ≡ 0 ↔ ((cells : List ℕ) × SizeCells rule cells value)
  pub answered : (cells : List ℕ) → SizeCells rule cells value → read value ≡ answer (size_table cells)
  pub once : (a b : List ℕ) → SizeCells rule a value → SizeCells rule b value → a ≡ b
  pub numbered : (read value).number ≡ fault_of (size_checks rule value)

-- (A13) radix encodings, as a call answers them: accepted exactly when the bytes are those of 1 to 16 cells, each an AP of three bits and an
-- exponent, these within bounds and strictly ascending, and the pairs are then answered; else the first check that does not hold refuses
pub record Demand2Radix (read : List ℕ → Outcome RadixTable) (value : List ℕ) : Type 0 where
  pub accepted : Each IsByte value → (read value).number ≡ 0 ↔ ((pairs : List RadixEncoding) × RadixPairs pairs value)
  pub answered : (pairs : List RadixEncoding) → RadixPairs pairs value → read value ≡ answer (radix_table pairs)
  pub once : (a b : List RadixEncoding) → RadixPairs a value → RadixPairs b value → a ≡ b
  pub numbered : (read value).number ≡ fault_of (size_checks radix_size value)

-- the descriptors of a value and the bytes of the one of type 0
abbrev pub Described : List ℕ → Type 0
Described value = (ds : List Attribute) × ((used : List ℕ) × Describes ds used value)

-- `ibm,pa-features`, as a call answers it in an edition: accepted exactly when the bytes are descriptors of which one has type 0, and that one's
-- bytes are then used; else the first check that does not hold refuses
pub record Demand2Pa (read : ℕ → List ℕ → Outcome PaTable) (value : List ℕ) : Type 0 where
  -- (A13) "15 also for an unknown edition, before all else"
  pub unknown : (edition : ℕ) → edition_later < edition → read edition value ≡ refuse no_attributes 15
  pub accepted : (edition : ℕ) → (read edition value).number ≡ 0 ↔ ((edition ≤ edition_later) × Described value)
  pub answered : (edition : ℕ) → edition ≤ edition_later → (ds : List Attribute) (used : List ℕ) → Describes ds used value
      → read edition value ≡ answer (pa_table (known_bytes edition used))
  pub numbered : (edition : ℕ) → edition ≤ edition_later → (read edition value).number ≡ fault_of (attribute_checks value)
  -- (A13) "0 behaves as before": what is new is zero; in 1 the table is of all the bytes
  pub first : NothingLater (read edition_first value).value
  pub later : (ds : List Attribute) (used : List ℕ) → Describes ds used value → read edition_later value ≡ answer (pa_table used)
  -- "reserved bits and bytes from 24 are ignored", as each edition says
  pub reserved : (edition : ℕ) → edition ≤ edition_later → (other : List ℕ) (ds es : List Attribute) (used used' : List ℕ)
      → Describes ds used value → Describes es used' other → Agree edition used used' → read edition value ≡ read edition other

-- `ibm,pi-features`, which "hands on all its bytes raw"
pub record Demand2Pi (read : List ℕ → Outcome PiTable) (value : List ℕ) : Type 0 where
  pub accepted : (read value).number ≡ 0 ↔ Described value
  pub answered : (ds : List Attribute) (used : List ℕ) → Describes ds used value → read value ≡ answer (pi_table used)
  pub numbered : (read value).number ≡ fault_of (attribute_checks value)

-- "the page-size and attribute tables"
pub record Demand2Value (value : List ℕ) : Type 0 where
  -- `ibm,processor-page-sizes`: each cell is a size, and document 01's checks alone decide
  pub pages : Demand2Sizes size_only page_sizes value
  pub pages_plain : page_sizes value ≡ first_fault (refuse no_sizes) (plain_checks size_only value) (answer (size_table (cells_in value)))
  -- `ibm,processor-segment-sizes`: a cell of all ones is no size, and "its place is kept"; without such a cell the answer is that of page sizes
  pub sizes_of_segments : Demand2Sizes size_or_none segment_sizes value
  pub places : (cells : List ℕ) → SizeCells size_or_none cells value → places_in (segment_sizes value).value ≡ map size_or_none cells
  pub without_gaps : Each (λ n. n ≡ no_size → ⊥) (cells_in value) → segment_sizes value ≡ page_sizes value
  -- `ibm,segment-page-sizes`: accepted exactly when the bytes are those of 1 to 8 descriptors within bounds, and these are then answered
  pub segments_accepted : Each IsByte value → (segment_pages value).number ≡ 0 ↔ ((segments : List Segment) × Encodes segments value)
  pub segments_read : (segments : List Segment) → Encodes segments value → segment_pages value ≡ answer (table_of (map descriptor_of segments))
  pub segments_once : (a b : List Segment) → Encodes a value → Encodes b value → a ≡ b
  -- `ibm,processor-radix-AP-encodings`, `ibm,pa-features` and `ibm,pi-features`; a value is that of one list of descriptors only
  pub radix : Demand2Radix radix_encodings value
  pub pa : Demand2Pa pa_features value
  pub pi : Demand2Pi pi_features value
  pub described_once : (a b : List Attribute) (used other : List ℕ) → Describes a used value → Describes b other value → a ≡ b
  -- "two cells, high first"
  pub bus_accepted : (bus_frequency value).number ≡ 0 ↔ (length value ≡ 8)
  pub bus_read : length value ≡ 8 → bus_frequency value ≡ answer (word_at value 0)

-- "the unit-address text"
pub record Demand2Unit : Type 0 where
  -- "A CPU number written as text reads back as itself", and eight bytes are enough to write it
  pub reads_back : (n : ℕ) (buffer : List ℕ) → n < 2 ^ 32 → (write_unit n (length buffer)).number ≡ 0 → read_unit (text_written n buffer) ≡ answer n
  pub enough : (n : ℕ) (buffer : List ℕ) → n < 2 ^ 32 → 8 ≤ length buffer → (write_unit n (length buffer)).number ≡ 0
  -- "a text read and written again is the same number in its shortest lower-case form", of which there is one
  pub shortest : (text buffer : List ℕ) (n : ℕ) → read_unit text ≡ answer n → (write_unit n (length buffer)).number ≡ 0
      → Shortest (2 ^ 32 - 1) n (text_written n buffer)
  pub one : (n : ℕ) (text other : List ℕ) → n < 2 ^ 32 → Shortest (2 ^ 32 - 1) n text → Shortest (2 ^ 32 - 1) n other → text ≡ other

-- what `yebkuzan_string_place` answers
abbrev pub find_string : List ℕ → List ℕ → Outcome ℕ
find_string list text = place_outcome (string_place list text)

-- all of it, for all bytes and numbers
pub record Demand2 : Type 0 where
  pub trees : (tree : List ℕ) → Demand2Tree read_record tree
  pub lookups : (cpu parent strings name : List ℕ) → Demand2Lookup cpu parent strings name
  pub lists : (list text : List ℕ) → Demand2List find_string list text
  pub values : (value : List ℕ) → Demand2Value value
  pub texts : Demand2Unit
