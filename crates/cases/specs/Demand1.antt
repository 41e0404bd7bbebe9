-- Demand 1, in its own words: how each entry point ends, over the definitions that the promises cite. Lent bytes that are only read
-- are kept by their type.
use Rattle.std.specs.Prelude.{Option, None, Some}
use Rattle.std.specs.Prelude.{ℕ, ◌<◌, min, ◌≡◌, true, false, List, [], ◌∷◌, ◌↔◌, length, get_or, replicate}
use Rattle.refusal.specs.Refusal.{Outcome}
use Rattle.cells.specs.Buffer.{Stays}
use Rattle.names.specs.Names.{node_name_at, property_name_at}
use Rattle.tokens.specs.Steps.{step_at, step_number}
use Rattle.tokens.specs.Tokens.{tokens}
use Rattle.properties.specs.Properties.{name_at, given_before, name_fault, read_properties}
use Rattle.unit.specs.Hex.{read_hex, write_hex, after_hex}
use Rattle.unit.specs.Unit.{read_unit, write_unit, after_unit}
use Rattle.sizes.specs.Sizes.{no_sizes, page_sizes, segment_sizes, radix_sizes}
use Rattle.segments.specs.declared.SegmentTable.{SegmentTable}
use Rattle.segments.specs.Segments.{most_descriptors, no_descriptor, segment_pages}
use Rattle.radix.specs.Radix.{no_encodings, radix_encodings}
use Rattle.attributes.specs.declared.PiTable.{PiTable}
use Rattle.attributes.specs.Attributes.{most_bytes, no_attributes, pa_features, pi_features, bus_frequency}
use Rattle.header.specs.Header.{no_blocks, header}
use Rattle.walk.specs.Checked.{no_layout, check_tree}
use Rattle.lookup.specs.declared.Found.{Found}
use Rattle.lookup.specs.Lookup.{lookup, reason, part_of}
use Rattle.positions.specs.Below.{first_that}
use Rattle.positions.specs.Sets.{set_words}
use Rattle.record.specs.declared.Record.{Record}
use Rattle.record.specs.Record.{most_features, no_features}
use Rattle.form.specs.WellFormed.{well_formed}
use Rattle.feature.specs.declared.FeatureCells.{FeatureCells}
use Rattle.feature.specs.Feature.{cell_numbers, refusal_of}
use Rattle.feature.specs.Phandles.{is_at}
use Rattle.reading.specs.Features.{carries}
use Rattle.nodes.specs.Nodes.{node_at}
use Rattle.reading.specs.Reading.{read_record}
use Rattle.reading.specs.Accepted.{features_of, dependencies_of}
use Rattle.reading.specs.Resolved.{Resolved}
use Rattle.permitted.specs.declared.Grants.{Grants}
use Rattle.permitted.specs.Asked.{Seen, examined, permitted}
use Rattle.tables.specs.Tables.{table_words}
use Rattle.enabled.specs.Answers.{Members, enable}
use Rattle.reach.specs.Answers.{reach_of, enable_by_table}
use Rattle.chain.specs.Chain.{chain, after_chain}
use Rattle.chain.specs.Slots.{chain_by_slots, after_chain_by_slots}
use Rattle.words.specs.Words.{no_words, words}
use Rattle.stringlist.specs.StringList.{string_place}
use Rattle.answers.specs.Answers.{place_outcome}
use Rattle.capi.specs.Answers.{form_number}
use Rattle.capi.specs.Properties.{Part, find_property}
use Rattle.listing.specs.Listing.{write_line, after_line}
use Rattle.cases.specs.Ends.{is_one_of, Ends, PlacedEnds, EndsAt, Keeps}

-- the zeros of a set, of an examination, of a set with its count, of segment page sizes, of attribute bytes, of a property's part
abbrev pub zero_set : List ℕ
zero_set = replicate set_words 0

abbrev pub zero_seen : Seen
zero_seen = record { set = zero_set; counts = replicate most_features 0 }

abbrev pub zero_members : Members
zero_members = record { set = zero_set; count = 0 }

abbrev pub zero_segments : SegmentTable
zero_segments = record { count = 0; descriptors = replicate most_descriptors no_descriptor }

abbrev pub zero_bytes : PiTable
zero_bytes = record { count = 0; bytes = replicate most_bytes 0 }

abbrev pub no_part : Part
no_part = record { block = 0; offset = 0; length = 0 }

-- what the calls of a look-up answer: the reason, with where the property is, and with the part
abbrev pub where_found : List ℕ → List ℕ → List ℕ → List ℕ → Outcome (Option Found)
where_found cpu parent strings name = record { number = reason cpu parent strings name; value = lookup cpu parent strings name }

abbrev pub part_found : List ℕ → List ℕ → List ℕ → List ℕ → Outcome (List ℕ)
part_found cpu parent strings name = record {
  number = reason cpu parent strings name;
  value = part_of cpu parent (lookup cpu parent strings name);
}

-- "A phandle that isn't found": dependency j of feature i of a tree is a phandle that no feature carries
pub record NotCarried (tree : List ℕ) (i j : ℕ) : Type 0 where
  pub feature : i < length (features_of tree)
  pub dependency : j < length (dependencies_of (node_at (features_of tree) i))
  pub by_none : (k : ℕ) → k < length (features_of tree)
      → carries (get_or (dependencies_of (node_at (features_of tree) i)) j 0) (node_at (features_of tree) k) ≡ false

-- `read_header`, `check_tree` and `read_record`: the header gives 1 to 5, the walk 6 to 9, the record 8 to 13
pub record Demand1Tree (tree : List ℕ) : Type 0 where
  pub header_ends : PlacedEnds tree 5 no_blocks (header tree)
  pub check_ends : PlacedEnds tree 9 no_layout (check_tree tree)
  -- "A refused read gives the number, the place and a record of no features"
  pub read_ends : PlacedEnds tree 13 no_features (read_record tree)
  -- one that is not refused gives a well formed record
  pub formed : (read_record tree).number ≡ 0 → well_formed (read_record tree).value ≡ true
  -- "A phandle that isn't found is a refusal, never a position": a tree with one is refused, and in the record of a tree that is not,
  -- each dependency is the position of the feature that carries the phandle
  pub refusal : (i j : ℕ) → NotCarried tree i j → (read_record tree).number ≡ 0 → ⊥
  pub position : (read_record tree).number ≡ 0 → Resolved (features_of tree) (read_record tree).value

-- `examine`, `permitted`, `enable`, `reach_table`, `enable_by_table`, `words` and `chain`, and the calls of C: "14", "15"
pub record Demand1Resolver (r : Record) (level : ℕ) (g : Grants) : Type 0 where
  -- well formed or not: 0 or 14
  pub form_ends : is_one_of (0 ∷ 14 ∷ []) (form_number r) ≡ true
  pub examine_ends : Ends (14 ∷ 15 ∷ []) zero_seen (examined r level g)
  pub permitted_ends : Ends (14 ∷ 15 ∷ []) zero_set (permitted r level g)
  pub enable_ends : Ends (14 ∷ 15 ∷ []) zero_members (enable r level g)
  pub reach_ends : Ends (14 ∷ []) (replicate table_words 0) (reach_of r)
  pub by_table_ends : (table : List ℕ) → Ends (14 ∷ 15 ∷ []) zero_members (enable_by_table r table level g)
  pub words_ends : Ends (14 ∷ 15 ∷ []) no_words (words r level g)
  -- "Order: 14, 15, 16, 17, 18", with length 0; "Lent buffers keep their bytes"
  pub chain_ends : (i : ℕ) (buffer : List ℕ) → Ends (14 ∷ 15 ∷ 16 ∷ 17 ∷ 18 ∷ []) 0 (chain r level g i (length buffer))
  pub chain_keeps : (i : ℕ) (buffer : List ℕ) → Keeps (chain r level g i (length buffer)) buffer (after_chain r level g i buffer)
  -- (A5) "wherever a lent buffer is written, bytes past what is written stay": as many are written as the call answers
  pub chain_stays : (i : ℕ) (buffer : List ℕ) → Stays buffer 0 (chain r level g i (length buffer)).value (after_chain r level g i buffer)

-- `chain_by_slots`, of slots, counts and a set that are handed in: "16, 17, 18", and the same of a lent buffer, its later bytes too (A5)
pub record Demand1Slots (slots counts : List ℕ) (n : ℕ) (set : List ℕ) (i : ℕ) (buffer : List ℕ) : Type 0 where
  pub slots_end : Ends (16 ∷ 17 ∷ 18 ∷ []) 0 (chain_by_slots slots counts n set i (length buffer))
  pub slots_keep : Keeps (chain_by_slots slots counts n set i (length buffer)) buffer (after_chain_by_slots slots counts n set i buffer)
  pub slots_stay : Stays buffer 0 (chain_by_slots slots counts n set i (length buffer)).value (after_chain_by_slots slots counts n set i buffer)

-- what a block of tokens is made of, with names in a strings block: `node_name` and `property_name`, `Cursor::step`, `name_refusal` and
-- `read_properties`
pub record Demand1Block (s : List ℕ) (stop : ℕ) (strings : List ℕ) (from limit : ℕ) : Type 0 where
  -- "name not as below": 7
  pub node_name_ends : (at : ℕ) → Ends (7 ∷ []) 0 (node_name_at s at stop)
  pub property_name_ends : (at : ℕ) → Ends (7 ∷ []) 0 (property_name_at s at stop)
  -- "token unknown, out of place or cut short": 6
  pub step_ends : (at : ℕ) → is_one_of (0 ∷ 6 ∷ []) (step_number (step_at s stop at)) ≡ true
  -- 7, and "A property name repeated in one node is 9"
  pub name_ends : (first t offset : ℕ) → is_one_of (0 ∷ 7 ∷ 9 ∷ [])
      (name_fault (name_at strings from limit offset)
      (given_before t (name_at strings from limit offset) (tokens s stop (name_at strings from limit) first))) ≡ true
  pub properties_end : (first : ℕ) → EndsAt (7 ∷ 9 ∷ []) 0 (read_properties stop [] (tokens s stop (name_at strings from limit) first))

-- `refusal_of` and `carrier_below`: the cells of a feature as read, and a phandle
pub record Demand1Feature (c : FeatureCells) (phandles : List (Option ℕ)) (n phandle : ℕ) : Type 0 where
  -- 0, or the number of one of the cells
  pub cells_end : is_one_of (0 ∷ cell_numbers c) (refusal_of c) ≡ true
  -- "A phandle that isn't found is .. never a position": what `carrier_below` answers as a position is below the bound and has the
  -- phandle; where it answers nowhere, no position below the bound has it
  pub carrier_has : (i : ℕ) → first_that (min n most_features) (is_at phandles phandle) ≡ Some i → (i < n) × (is_at phandles phandle i ≡ true)
  pub nowhere_none : first_that (min n most_features) (is_at phandles phandle) ≡ None
      → (i : ℕ) → i < min n most_features → is_at phandles phandle i ≡ false

-- `find_property`, `property_part` and `lookup_reason`: "0 when it is found, else the reason: the walk's 6, 7 or 9, .. then 10"
pub record Demand1Lookup (cpu parent strings name : List ℕ) : Type 0 where
  pub where_ends : Ends (6 ∷ 7 ∷ 9 ∷ 10 ∷ []) None (where_found cpu parent strings name)
  -- "the empty part when neither has it or either block doesn't read as properties"
  pub part_ends : Ends (6 ∷ 7 ∷ 9 ∷ 10 ∷ []) [] (part_found cpu parent strings name)
  -- the call of C, with the part in numbers
  pub find_ends : Ends (6 ∷ 7 ∷ 9 ∷ 10 ∷ []) no_part (find_property cpu parent strings name)
  pub found : (reason cpu parent strings name ≡ 0) ↔ ((part_found cpu parent strings name).value ≡ [] → ⊥)

-- `string_place`, by the call of C: the place of a string in a list, or 10 where it does not stand there (A3)
pub record Demand1List (list text : List ℕ) : Type 0 where
  pub place_ends : Ends (10 ∷ []) 0 (place_outcome (string_place list text))

-- `page_sizes` and `segment_sizes`, `segment_page_sizes`, `radix_sizes` and `radix_encodings`, `pa_features`, `pi_features` and
-- `bus_frequency`, of a value
pub record Demand1Value (value : List ℕ) : Type 0 where
  -- "length first (11), maxima (8), then cell by cell, 12 before 19"; of segment sizes "gaps only is 11, after all cell checks"
  pub pages_ends : Ends (8 ∷ 11 ∷ 12 ∷ 19 ∷ []) no_sizes (page_sizes value)
  pub sizes_of_segments_ends : Ends (8 ∷ 11 ∷ 12 ∷ 19 ∷ []) no_sizes (segment_sizes value)
  -- "a ninth of sizes is 8, a header cut short 11, a count of 0 .. is 12"
  pub segments_ends : Ends (8 ∷ 11 ∷ 12 ∷ []) zero_segments (segment_pages value)
  -- (A13) "11, 8, 12, 19 as for page sizes"
  pub radix_sizes_end : Ends (8 ∷ 11 ∷ 12 ∷ 19 ∷ []) no_sizes (radix_sizes value)
  pub radix_ends : Ends (8 ∷ 11 ∷ 12 ∷ 19 ∷ []) no_encodings (radix_encodings value)
  -- "One of type 0 is used, none is 10, two are 9"; "a header cut short 11, .. a length byte of 0 or 255 is 12"; (A13) "15 also for an
  -- unknown edition"
  pub pa_ends : (edition : ℕ) → Ends (9 ∷ 10 ∷ 11 ∷ 12 ∷ 15 ∷ []) no_attributes (pa_features edition value)
  pub pi_ends : Ends (9 ∷ 10 ∷ 11 ∷ 12 ∷ []) zero_bytes (pi_features value)
  -- "length first (11)"
  pub bus_ends : Ends (11 ∷ []) 0 (bus_frequency value)

-- `read_unit` and `write_unit`: "20 before 12"; 18, "the lent buffer is shorter than what is to be written"
pub record Demand1Unit (text : List ℕ) (n : ℕ) (buffer : List ℕ) : Type 0 where
  pub unit_ends : Ends (12 ∷ 20 ∷ []) 0 (read_unit text)
  pub write_ends : Ends (18 ∷ []) 0 (write_unit n (length buffer))
  pub write_keeps : Keeps (write_unit n (length buffer)) buffer (after_unit n buffer)
  -- (A5) "Here, and wherever a lent buffer is written, bytes past what is written stay."
  pub write_stays : Stays buffer 0 (write_unit n (length buffer)).value (after_unit n buffer)
  -- `read_hex` and `write_hex`: up to a largest number, and from a place on
  pub hex_ends : (largest : ℕ) → Ends (12 ∷ 20 ∷ []) 0 (read_hex largest text)
  pub hex_write_ends : (at : ℕ) → Ends (18 ∷ []) 0 (write_hex n at (length buffer))
  pub hex_write_keeps : (at : ℕ) → Keeps (write_hex n at (length buffer)) buffer (after_hex n at buffer)
  pub hex_write_stays : (at : ℕ) → Stays buffer at (write_hex n at (length buffer)).value (after_hex n at buffer)

-- `write_line`: 16 for a line past the last, then 18; of the lent buffer the same as for a chain (A5)
pub record Demand1Line (tree : List ℕ) (k : ℕ) (buffer : List ℕ) : Type 0 where
  pub line_ends : Ends (16 ∷ 18 ∷ []) 0 (write_line tree k (length buffer))
  pub line_keeps : Keeps (write_line tree k (length buffer)) buffer (after_line tree k buffer)
  pub line_stays : Stays buffer 0 (write_line tree k (length buffer)).value (after_line tree k buffer)

-- all of it, for "bytes and numbers of all kinds, from anyone"
pub record Demand1 : Type 0 where
  pub trees : (tree : List ℕ) → Demand1Tree tree
  pub records : (r : Record) (level : ℕ) (g : Grants) → Demand1Resolver r level g
  pub slots : (slots counts : List ℕ) (n : ℕ) (set : List ℕ) (i : ℕ) (buffer : List ℕ) → Demand1Slots slots counts n set i buffer
  pub lookups : (cpu parent strings name : List ℕ) → Demand1Lookup cpu parent strings name
  pub lists : (list text : List ℕ) → Demand1List list text
  pub values : (value : List ℕ) → Demand1Value value
  pub texts : (text : List ℕ) (n : ℕ) (buffer : List ℕ) → Demand1Unit text n buffer
  pub lines : (tree : List ℕ) (k : ℕ) (buffer : List ℕ) → Demand1Line tree k buffer
  pub blocks : (s : List ℕ) (stop : ℕ) (strings : List ℕ) (from limit : ℕ) → Demand1Block s stop strings from limit
  pub features : (c : FeatureCells) (phandles : List (Option ℕ)) (n phandle : ℕ) → Demand1Feature c phandles n phandle
