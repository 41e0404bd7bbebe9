-- The lister's text (document 01, "Both sides"): the lines of a tree, and one of them in a lent buffer.
use Rattle.std.specs.Prelude.{ℕ, zero, suc, ◌+◌, ◌*◌, ◌^◌, ◌-◌, true, false, List, [], ◌∷◌, ◌++◌, map, leb, ltb, length, get_or, Result}
use Prim.Native.String.{String}
use Rattle.characters.specs.Characters.{bytes}
use Rattle.refusal.specs.Refusal.{Outcome, answer, refuse, outcome_of}
use Rattle.refusal.specs.declared.Refusal.{Refusal}
use Rattle.refusal.specs.Checks.{Check, check, first_fault}
use Rattle.cells.specs.Buffer.{after_writing}
use Rattle.cells.specs.Rows.{each}
use Rattle.strings.specs.Strings.{Text, ended, unended}
use Rattle.names.specs.Names.{most_node_name}
use Rattle.positions.specs.Sets.{set_of, no_members, member_count}
use Rattle.record.specs.declared.Record.{Record}
use Rattle.record.specs.Record.{most_features}
use Rattle.nodes.specs.Nodes.{node_at}
use Rattle.reading.specs.Reading.{read_record}
use Rattle.reading.specs.Accepted.{features_of}
use Rattle.permitted.specs.declared.Grants.{Grants}
use Rattle.permitted.specs.Permitted.{permitted_set}
use Rattle.enabled.specs.Answers.{enabled_set}
use Rattle.chain.specs.Chain.{is_enabled, chain_in}
use Rattle.words.specs.Words.{WordValues, words_of}
use Rattle.listing.specs.Digits.{decimal, hex_word}

-- "at user level"
abbrev pub user : ℕ
user = 0

-- "all HFSCR and FSCR bits granted, no own code"
unfoldable pub all_granted : Grants
all_granted = record {
  hypervisor = record { words = set_of no_members };
  system = record { words = set_of no_members };
  hfscr = 2 ^ 64 - 1;
  fscr = 2 ^ 64 - 1;
}

-- the permitted and the enabled set of a record, and its words
unfoldable pub permitted_in : Record → List ℕ
permitted_in r = permitted_set r user all_granted

unfoldable pub enabled_in : Record → List ℕ
enabled_in r = enabled_set r (permitted_in r)

unfoldable pub words_in : Record → WordValues
words_in r = words_of r user all_granted (enabled_in r)

-- the characters of a name; none where it does not end
unfoldable pub characters_of : Text → List ℕ
characters_of (ended cs) = cs
characters_of unended = []

-- the name of the feature at a position, unit address included
unfoldable pub name_of : List ℕ → ℕ → List ℕ
name_of tree i = characters_of (node_at (features_of tree) i).name

-- names joined by `>`: the first, and each other with `>` before it
unfoldable pub others : List (List ℕ) → List ℕ
others [] = []
others (n ∷ ns) = bytes ">" ++ n ++ others ns

unfoldable pub joined : List (List ℕ) → List ℕ
joined [] = []
joined (n ∷ ns) = n ++ others ns

abbrev pub line_end : List ℕ
line_end = 10 ∷ []

-- a text and a number behind it: in decimal, or as a word of some digits
abbrev pub numbered : String → ℕ → List ℕ
numbered text n = bytes text ++ decimal n

abbrev pub worded : String → ℕ → ℕ → List ℕ
worded text many n = bytes text ++ hex_word many n

-- `isa 3000 features 5 enabled 2`
unfoldable pub head_line : Record → List ℕ
head_line r = numbered "isa " r.isa ++ numbered " features " r.count ++ numbered " enabled " (member_count (enabled_in r)) ++ line_end

-- ` on`, or ` off ` and the names of the chain
unfoldable pub state_text : (ℕ → List ℕ) → Record → ℕ → List ℕ
state_text name r i = elim (is_enabled r (permitted_in r) i) [
  | true ↦ bytes " on"
  | false ↦ bytes " off " ++ joined (map name (chain_in r (permitted_in r) i))
]

-- `1 bravo on`, `3 delta off delta>carol`
unfoldable pub feature_line : (ℕ → List ℕ) → Record → ℕ → List ℕ
feature_line name r i = decimal i ++ bytes " " ++ name i ++ state_text name r i ++ line_end

-- `hwcap 00000004 00000008 fscr 0000000000000200 hfscr 0000000000000000`
unfoldable pub words_line : Record → List ℕ
words_line r =
    worded "hwcap " 8 (words_in r).first
    ++ worded " " 8 (words_in r).second
    ++ worded " fscr " 16 (words_in r).fscr
    ++ worded " hfscr " 16 (words_in r).hfscr
    ++ line_end

-- "a refusal prints `refused N at P`"
unfoldable pub refused_line : ℕ → ℕ → List ℕ
refused_line number place = numbered "refused " number ++ numbered " at " place ++ line_end

-- the lines of an accepted tree, by its features' names and its record
unfoldable pub record_lines : (ℕ → List ℕ) → Record → List (List ℕ)
record_lines name r = head_line r ∷ (each r.count (feature_line name r) ++ (words_line r ∷ []))

-- the lines of a tree
unfoldable pub listing : List ℕ → List (List ℕ)
listing tree = elim (read_record tree).number [
  | zero ↦ record_lines (name_of tree) (read_record tree).value
  | suc n ↦ refused_line (read_record tree).number (read_record tree).place ∷ []
]

unfoldable pub line_at : List ℕ → ℕ → List ℕ
line_at tree k = get_or (listing tree) k []

-- two digits, a space, a name, ` off `, and as many names as there may be features, each with the `>` or the line's end behind it
abbrev pub longest_line : ℕ
longest_line = 2 + 1 + most_node_name + 5 + most_features * (most_node_name + 1)

-- a line past the last is 16; "the lent buffer is shorter than what is to be written": 18
unfoldable pub line_checks : List ℕ → ℕ → ℕ → List (Check ℕ)
line_checks tree k room = check (ltb k (length (listing tree))) 16 ∷ check (leb (length (line_at tree k)) room) 18 ∷ []

-- the number of bytes written
unfoldable pub write_line : List ℕ → ℕ → ℕ → Outcome ℕ
write_line tree k room = first_fault (refuse 0) (line_checks tree k room) (answer (length (line_at tree k)))

-- the buffer afterwards; "Lent buffers keep their bytes" where it is refused
unfoldable pub after_line : List ℕ → ℕ → List ℕ → List ℕ
after_line tree k old = after_writing (line_checks tree k (length old)) old 0 (line_at tree k)

-- what an answer says: the number of document 01, and the length
abbrev pub line_outcome : Result ℕ Refusal → Outcome ℕ
line_outcome w = outcome_of (λ (n : ℕ). n) 0 w
