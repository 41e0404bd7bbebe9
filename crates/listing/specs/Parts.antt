-- What the functions behind the public one promise.
use Rattle.std.specs.Prelude.{ℕ, ◌+◌, ◌<◌, ◌≤◌, ◌≡◌, List, length}
use Rattle.cells.specs.Buffer.{written}
use Rattle.strings.specs.Strings.{text_at}
use Rattle.record.specs.declared.Record.{Record}
use Rattle.record.specs.Record.{feature_at}
use Rattle.reading.specs.Reading.{read_record}
use Rattle.listing.specs.declared.Line.{Line}
use Rattle.listing.specs.Listing.{characters_of, listing, line_at, longest_line}

-- a text is put into a buffer from a place on: the buffer afterwards, and the place behind the text
pub record Put (old : List ℕ) (at : ℕ) (text new : List ℕ) (next : ℕ) : Type 0 where
  pub stands : new ≡ written old at text
  pub reached : next ≡ at + length text
  pub room : at + length text ≤ length old
  pub size : length new ≡ length old

-- the same of a line, behind what it has
abbrev pub Puts : Line → List ℕ → Line → Type 0
Puts old text new = Put old.bytes old.length text new.bytes new.length

-- a line has room for some bytes more
abbrev pub Room : Line → ℕ → Type 0
Room line many = line.length + many ≤ longest_line

-- the characters of the string from a place on; none where it does not end
unfoldable pub string_at : List ℕ → ℕ → List ℕ
string_at tree from = characters_of (text_at tree from (length tree))

-- the name of a record's feature, which stands behind its begin token
unfoldable pub name_in : List ℕ → Record → ℕ → List ℕ
name_in tree r i = string_at tree ((feature_at r i).offset + 4)

-- the record of an accepted tree
pub record IsRead (tree : List ℕ) (r : Record) : Type 0 where
  pub accepted : (read_record tree).number ≡ 0
  pub same : (read_record tree).value ≡ r

-- line k of a tree is put into a line; or there is no such line: the line stays, and the refusal is 16
pub data Composed (tree : List ℕ) (k : ℕ) (old : Line) : Line → ℕ → Type 0 where
  none : length (listing tree) ≤ k → Composed tree k old old 16
  some : {new : Line} → k < length (listing tree) → Puts old (line_at tree k) new → Composed tree k old new 0
