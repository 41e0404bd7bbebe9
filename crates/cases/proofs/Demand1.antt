-- Demand 1, for all bytes and numbers. Assumes nothing.
use Rattle.std.specs.Prelude.{Option, None, Some}
use Prim.Native.Nat.{ℕ, ◌≤◌, min}
use mathlib.Core.Path.{refl, sym, subst}
use mathlib.Core.List.{List, [], ◌∷◌}
use native.Mathlib.Omega.{arith}
use lib.ListN.{length}
use Rattle.refusal.specs.Refusal.{Placed}
use Rattle.unit.specs.Hex.{HexNumber, some_number, no_number, hex_number, hex_checks, read_number, read_hex, hex_text, digit_count, write_checks, write_hex, after_hex}
use Rattle.unit.specs.Unit.{read_unit, write_unit, after_unit}
use Rattle.unit.proofs.Stays.{hex-stays, unit-stays}
use Rattle.sizes.specs.Sizes.{size_only, size_or_none, radix_size, size_checks, no_sizes, sizes}
use Rattle.segments.specs.Segments.{segment_checks, table_of, segment_pages}
use Rattle.radix.specs.Radix.{no_encodings, radix_encodings}
use Rattle.attributes.specs.Attributes.{attribute_checks, no_attributes, pa_checks, pa_features, pi_table, pi_features, bus_frequency}
use Rattle.header.specs.Header.{no_blocks, header}
use Rattle.walk.specs.Checked.{no_layout}
use Rattle.walk.specs.declared.Layout.{Layout}
use Rattle.walk.specs.Faults.{CheckEnds, answered, header_refused, walk_refused}
use Rattle.walk.proofs.CheckEnds.{check-ends, check-place}
use Rattle.stringlist.specs.StringList.{string_place}
use Rattle.answers.specs.Answers.{place_outcome}
use Rattle.positions.specs.Sets.{set_of, collect, no_members}
use Rattle.record.specs.declared.Record.{Record}
use Rattle.record.specs.Record.{most_features, no_features}
use Rattle.reading.specs.Ends.{ReadEnds, accepted, walk_refused as tree_refused, check_refused}
use Rattle.reading.proofs.Faults.{read-ends}
use Rattle.reading.proofs.Formed.{read-formed}
use Rattle.reading.proofs.Dependencies.{read-dependencies, unfound-refused}
use Rattle.permitted.specs.declared.Grants.{Grants}
use Rattle.permitted.specs.Permitted.{permitted_set}
use Rattle.permitted.specs.Asked.{asked_checks, dependency_counts, examined, permitted}
use Rattle.enabled.specs.Answers.{members_of, enabled_set, enable}
use Rattle.reach.specs.Answers.{reach_table, reach_of, enabled_by_table, enable_by_table}
use Rattle.chain.specs.Chain.{chain_in, chain_checks, chain, after_chain}
use Rattle.chain.specs.Slots.{slot_chain, slot_checks, chain_by_slots, after_chain_by_slots}
use Rattle.chain.proofs.Stays.{chain-stays, slots-stay}
use Rattle.words.specs.Words.{no_words, words}
use Rattle.capi.specs.Answers.{form_number}
use Rattle.listing.specs.Listing.{line_at, line_checks, write_line, after_line}
use Rattle.listing.proofs.LineLaws.{line_stays}
use Rattle.cases.specs.Ends.{Ends, answered as whole, refused, PlacedEnds, answered_at, refused_at, Keeps}
use Rattle.cases.specs.Demand1.{zero_set, zero_seen, zero_members, zero_segments, zero_bytes, Demand1Tree, Demand1Resolver, Demand1Slots, Demand1List, Demand1Value, Demand1Unit, Demand1Line, Demand1}
use Rattle.cases.proofs.EndLaws.{checks-end, checks-keep, fault-one-of}
use Rattle.cases.proofs.TableNumbers.{size_numbers, sizes-numbered, segment_numbers, segments-numbered, attribute_numbers, attributes-numbered, pa-numbered}
use Rattle.cases.proofs.LookupEnds.{of-lookup}
use Rattle.cases.proofs.BlockEnds.{of-block, of-feature}

-- a tree: by how its check and its reading end
header-ends : {tree : List ℕ} {r : Placed Layout} → CheckEnds tree r → PlacedEnds tree 5 no_blocks (header tree)
header-ends {tree} (answered h w) = subst (PlacedEnds tree 5 no_blocks) (sym h) (answered_at _)
header-ends {tree} (header_refused {number} {place} h l m p) = subst (PlacedEnds tree 5 no_blocks) (sym h) (refused_at number place l m p)
header-ends {tree} (walk_refused h f) = subst (PlacedEnds tree 5 no_blocks) (sym h) (answered_at _)

tree-ends : {tree : List ℕ} {r : Placed Layout} → CheckEnds tree r → r.place ≤ length tree → PlacedEnds tree 9 no_layout r
tree-ends (answered h w) q = answered_at _
tree-ends (header_refused {number} {place} h l m p) q = refused_at number place l (omega arith) p
tree-ends (walk_refused {number} {place} h f) q = refused_at number place (omega arith) f.most q

record-ends : {tree : List ℕ} {r : Placed Record} → ReadEnds tree r → PlacedEnds tree 13 no_features r
record-ends (accepted a) = answered_at _
record-ends (tree_refused {number} {place} e l m p) = refused_at number place l (omega arith) p
record-ends (check_refused {number} {place} w f l m p) = refused_at number place (omega arith) m p

of_tree : (tree : List ℕ) → Demand1Tree tree
of_tree tree = record {
  header_ends = header-ends (check-ends tree);
  check_ends = tree-ends (check-ends tree) (check-place tree);
  read_ends = record-ends (read-ends tree);
  formed = read-formed tree;
  refusal = λ i j u. unfound-refused tree i j u.feature u.dependency u.by_none;
  position = read-dependencies tree;
}

-- a record, a level and grants
module _ (r : Record) (level : ℕ) (g : Grants) where
  examine-ends : Ends (14 ∷ 15 ∷ []) zero_seen (examined r level g)
  unfolding examined asked_checks set_of collect no_members
  examine-ends = checks-end _ zero_seen (record { set = permitted_set r level g; counts = dependency_counts r }) (asked_checks r level) refl

  permitted-ends : Ends (14 ∷ 15 ∷ []) zero_set (permitted r level g)
  unfolding permitted asked_checks set_of collect no_members
  permitted-ends = checks-end _ zero_set (permitted_set r level g) (asked_checks r level) refl

  enable-ends : Ends (14 ∷ 15 ∷ []) zero_members (enable r level g)
  unfolding enable asked_checks set_of collect no_members
  enable-ends = checks-end _ zero_members (members_of (enabled_set r (permitted_set r level g))) (asked_checks r level) refl

  by-table-ends : (table : List ℕ) → Ends (14 ∷ 15 ∷ []) zero_members (enable_by_table r table level g)
  unfolding enable_by_table asked_checks set_of collect no_members
  by-table-ends table =
      checks-end _ zero_members (members_of (enabled_by_table r table (permitted_set r level g))) (asked_checks r level) refl

  of-resolver : Demand1Resolver r level g
  unfolding form_number asked_checks reach_of words chain chain_checks after_chain
  of-resolver = record {
    form_ends = fault-one-of (14 ∷ []) _ refl;
    examine_ends = examine-ends;
    permitted_ends = permitted-ends;
    enable_ends = enable-ends;
    reach_ends = checks-end _ _ (reach_table r) _ refl;
    by_table_ends = by-table-ends;
    words_ends = checks-end _ no_words _ (asked_checks r level) refl;
    chain_ends = λ i buffer. checks-end _ 0 _ (chain_checks r level g i (length buffer)) refl;
    chain_keeps = λ i buffer.
        let told = chain_in r (permitted_set r level g) i in
        checks-keep 0 (length told) buffer 0 told (chain_checks r level g i (length buffer));
    chain_stays = chain-stays r level g;
  }

-- slots, counts and a set
of_slots : (slots counts : List ℕ) (n : ℕ) (set : List ℕ) (i : ℕ) (buffer : List ℕ) → Demand1Slots slots counts n set i buffer
unfolding chain_by_slots after_chain_by_slots slot_checks
of_slots slots counts n set i buffer =
    let told = slot_chain slots counts (min n most_features) set i in
    let checks = slot_checks slots counts (min n most_features) set i (length buffer) in
    record {
      slots_end = checks-end _ 0 (length told) checks refl;
      slots_keep = checks-keep 0 (length told) buffer 0 told checks;
      slots_stay = slots-stay slots counts n set i buffer;
    }

-- the value of a CPU node's property
of-value : (value : List ℕ) → Demand1Value value
unfolding sizes segment_pages table_of radix_encodings pa_features pi_features pi_table bus_frequency
of-value value = record {
  pages_ends = checks-end size_numbers no_sizes _ (size_checks size_only value) (sizes-numbered size_only value);
  sizes_of_segments_ends = checks-end size_numbers no_sizes _ (size_checks size_or_none value) (sizes-numbered size_or_none value);
  segments_ends = checks-end segment_numbers zero_segments _ (segment_checks value) (segments-numbered value);
  radix_sizes_end = checks-end size_numbers no_sizes _ (size_checks radix_size value) (sizes-numbered radix_size value);
  radix_ends = checks-end size_numbers no_encodings _ (size_checks radix_size value) (sizes-numbered radix_size value);
  pa_ends = λ edition. checks-end (attribute_numbers (15 ∷ [])) no_attributes _ (pa_checks edition value) (pa-numbered edition value);
  pi_ends = checks-end (attribute_numbers []) zero_bytes _ (attribute_checks value) (attributes-numbered [] value);
  bus_ends = checks-end _ 0 _ _ refl;
}

-- a list of strings
of-list : (list text : List ℕ) → Demand1List list text
of-list list text = record { place_ends = go (string_place list text) }
  where
    go : (p : Option ℕ) → Ends (10 ∷ []) 0 (place_outcome p)
    go (Some i) = whole i
    go None = refused 10 refl

-- a text, and a number that is written into a buffer
module _ (text : List ℕ) (n : ℕ) (buffer : List ℕ) where
  hex-ends : (largest : ℕ) → Ends (12 ∷ 20 ∷ []) 0 (read_hex largest text)
  unfolding read_hex hex_checks
  hex-ends largest = go (hex_number text)
    where
      go : (x : HexNumber) → Ends (12 ∷ 20 ∷ []) 0 (read_number largest text x)
      go (some_number n) = checks-end _ 0 n (hex_checks largest text n) refl
      go no_number = refused 20 refl

  write-ends : (at : ℕ) → Ends (18 ∷ []) 0 (write_hex n at (length buffer))
  unfolding write_hex write_checks
  write-ends at = checks-end _ 0 (digit_count n) (write_checks n at (length buffer)) refl

  write_keeps : (at : ℕ) → Keeps (write_hex n at (length buffer)) buffer (after_hex n at buffer)
  unfolding write_hex after_hex
  write_keeps at = checks-keep 0 (digit_count n) buffer at (hex_text n) (write_checks n at (length buffer))

  of-unit : Demand1Unit text n buffer
  unfolding read_unit write_unit after_unit
  of-unit = record {
    unit_ends = hex-ends _;
    write_ends = write-ends 0;
    write_keeps = write_keeps 0;
    write_stays = unit-stays n buffer;
    hex_ends = hex-ends;
    hex_write_ends = write-ends;
    hex_write_keeps = write_keeps;
    hex_write_stays = λ at. hex-stays n at buffer;
  }

-- a line of the list
of-line : (tree : List ℕ) (k : ℕ) (buffer : List ℕ) → Demand1Line tree k buffer
unfolding write_line after_line line_checks
of-line tree k buffer = record {
  line_ends = checks-end _ 0 (length (line_at tree k)) (line_checks tree k (length buffer)) refl;
  line_keeps = checks-keep 0 (length (line_at tree k)) buffer 0 (line_at tree k) (line_checks tree k (length buffer));
  line_stays = line_stays tree k buffer;
}

pub demand-1 : Demand1
demand-1 = record {
  trees = of_tree;
  records = of-resolver;
  slots = of_slots;
  lookups = of-lookup;
  lists = of-list;
  values = of-value;
  texts = of-unit;
  lines = of-line;
  blocks = of-block;
  features = λ c phandles n phandle. of-feature phandles n phandle c;
}
