-- Document 01's five features, the same with one that has no capability bit, and with other strings of the container: antt computes what
-- their trees are read as.
-- Assumes nothing.
use mathlib.Core.Path.{◌≡◌, refl}
use mathlib.Core.List.{flat_map}
use Rattle.refusal.specs.Refusal.{placed, refuse_at, fault}
use Rattle.refusal.specs.Checks.{first_fault}
use Rattle.characters.specs.Characters.{is_node_character, is_property_character}
use Rattle.cells.specs.Cells.{cell_at}
use Rattle.cells.specs.Bytes.{cell_bytes}
use Rattle.strings.specs.Strings.{text_of, text_at, same_bytes}
use Rattle.stringlist.specs.StringList.{split_at_zeros, is_whole, strings_in, string_place, is_only_string}
use Rattle.container.specs.Container.{is_container_type, is_container_compatible}
use Rattle.names.specs.Names.{every, at_signs, first_is_plain, last_is_plain, node_characters, is_node_name, is_property_name, is_root_name, same_text}
use Rattle.header.specs.Header.{block_checks, header_checks, blocks_of, header}
use Rattle.tokens.specs.Tokens.{tokens_from, tokens}
use Rattle.tokens.specs.Steps.{padded, property_at, step_at}
use Rattle.properties.specs.Properties.{name_at, among}
use Rattle.walk.specs.Checked.{layout_of, check_tree}
use Rattle.walk.specs.Walk.{step, walk}
use Rattle.walk.specs.Containers.{container_offsets, first_two}
use Rattle.positions.specs.Bits.{bit}
use Rattle.positions.specs.Below.{first_that}
use Rattle.record.specs.Record.{no_features}
use Rattle.record.specs.Cells.{word_of_bits, feature_with}
use Rattle.reading.specs.Features.{in_order, some, feature_checks, cell_in, feature_of}
use Rattle.reading.specs.Reading.{read_checks, record_with, record_of, read_record}
use Rattle.reading.specs.Example.{example_tree, example_record, older_tree, older_record, second_name_tree, two_types_tree}
use Rattle.reading.specs.Dependencies.{cell_checks, carrier_checks, positions_of, slots_of}
use Rattle.nodes.specs.Values.{value_in}
use Rattle.nodes.specs.Nodes.{node_at, nodes_named, children_at}

all_read : (read_record example_tree ≡ placed example_record)
    × (read_record older_tree ≡ placed older_record)
    × (read_record second_name_tree ≡ placed example_record)
    × (read_record two_types_tree ≡ refuse_at no_features (fault 11 76))
unfolding first_fault is_node_character is_property_character cell_at text_of text_at same_bytes split_at_zeros is_whole strings_in string_place is_only_string is_container_type is_container_compatible every at_signs first_is_plain last_is_plain node_characters is_node_name is_property_name is_root_name same_text block_checks header_checks blocks_of header tokens_from tokens padded property_at step_at name_at among layout_of check_tree step walk container_offsets first_two bit first_that in_order some feature_checks cell_in word_of_bits feature_with feature_of node_at read_checks record_with record_of read_record example_tree example_record older_tree older_record second_name_tree two_types_tree flat_map cell_bytes cell_checks carrier_checks positions_of slots_of value_in nodes_named children_at
all_read = (refl, refl, refl, refl)

pub example-read : read_record example_tree ≡ placed example_record
example-read = all_read.0

pub older-read : read_record older_tree ≡ placed older_record
older-read = all_read.1

pub second-name-read : read_record second_name_tree ≡ placed example_record
second-name-read = all_read.2

pub two-types-read : read_record two_types_tree ≡ refuse_at no_features (fault 11 76)
two-types-read = all_read.3
