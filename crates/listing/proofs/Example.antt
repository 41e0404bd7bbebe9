-- Document 01's five features: the list of their tree is the text that document 01 prints; and that of the same tree without one capability
-- bit. antt computes both. Assumes nothing.
use mathlib.Core.Path.{◌≡◌, refl, ap, ◌∙◌}
use mathlib.Core.List.{List, flat_map}
use Prim.Native.Nat.{ℕ}
use Rattle.refusal.specs.Refusal.{Placed, placed}
use Rattle.characters.specs.Characters.{hex_digit}
use Rattle.cells.specs.Cells.{cell_at}
use Rattle.cells.specs.Bytes.{cell_bytes}
use Rattle.strings.specs.Strings.{text_of, text_at, same_bytes}
use Rattle.names.specs.Names.{same_text}
use Rattle.header.specs.Header.{blocks_of}
use Rattle.tokens.specs.Tokens.{tokens_from, tokens}
use Rattle.tokens.specs.Steps.{padded, property_at, step_at}
use Rattle.positions.specs.Below.{every, some, count}
use Rattle.positions.specs.Bits.{bit}
use Rattle.positions.specs.Sets.{has, insert_at, collect, set_of, no_members, member_count}
use Rattle.record.specs.declared.Record.{Record}
use Rattle.record.specs.Cells.{bit_of, held, cell, dependency_count}
use Rattle.nodes.specs.Nodes.{node_at, nodes_named, children_at}
use Rattle.reading.specs.Reading.{read_record}
use Rattle.reading.specs.Example.{example_tree, example_record, older_tree, older_record}
use Rattle.reading.proofs.Example.{example-read, older-read}
use Rattle.permitted.specs.Permitted.{by_register, is_supported_below, is_permitted, permitted_set}
use Rattle.closure.specs.Enabled.{after_sweeps}
use Rattle.closure.specs.Shortest.{smallest_of, chain_within}
use Rattle.enabled.specs.Answers.{enabled_set}
use Rattle.chain.specs.Chain.{chain_in}
use Rattle.words.specs.Words.{word_of, capability_bit, support_bit, capability_word, register_word, words_of}
use Rattle.listing.specs.Digits.{last_digits, places_within, decimal_places, decimal}
use Rattle.listing.specs.Listing.{all_granted, permitted_in, enabled_in, words_in, characters_of, name_of, others, joined, head_line, state_text, feature_line, words_line, record_lines, listing}
use Rattle.listing.specs.Example.{example_lines, older_lines}
use Rattle.listing.proofs.LineLaws.{record-lines}

both-lines : (record_lines (name_of example_tree) example_record ≡ example_lines) × (record_lines (name_of older_tree) older_record ≡ older_lines)
unfolding permitted_in permitted_set collect insert_at is_permitted is_supported_below by_register cell bit_of held bit has set_of no_members all_granted example_record enabled_in enabled_set after_sweeps every dependency_count member_count count chain_in chain_within smallest_of words_in words_of word_of capability_word capability_bit register_word support_bit some characters_of name_of others joined head_line state_text feature_line words_line record_lines last_digits places_within decimal_places decimal hex_digit cell_at text_of text_at same_bytes same_text blocks_of tokens_from tokens padded property_at step_at node_at nodes_named children_at example_tree older_tree older_record flat_map cell_bytes example_lines older_lines
both-lines = (refl, refl)

-- the list of a tree that is read as a record
listed : (tree : List ℕ) (r : Record) → read_record tree ≡ placed r → listing tree ≡ record_lines (name_of tree) r
listed tree r e =
    record-lines (record { accepted = ap (λ (o : Placed Record). o.number) e; same = ap (λ (o : Placed Record). o.value) e })

pub example-listed : listing example_tree ≡ example_lines
example-listed = listed example_tree example_record example-read ∙ both-lines.0

pub older-listed : listing older_tree ≡ older_lines
older-listed = listed older_tree older_record older-read ∙ both-lines.1
