-- What a look-up finds, in the words of document 01, "CPU properties and unit text".
use Rattle.std.specs.Prelude.{ℕ, ◌+◌, ◌-◌, ◌≤◌, ◌≡◌, Bool, true, false, ◌||◌, List, [], ◌∷◌, length, take, drop, Option, Some, None}
use Rattle.cells.specs.Cells.{cell_at}
use Rattle.strings.specs.Strings.{ended}
use Rattle.names.specs.Names.{is_property_name, same_text}
use Rattle.properties.specs.Properties.{name_at}
use Rattle.lookup.specs.declared.Found.{Found}
use Rattle.lookup.specs.declared.Found.TheVariants.{InCpu, InParent}
use Rattle.lookup.specs.Lookup.{Held, properties, refused, block_of, value_of}

-- the part of a block from a place to another
abbrev pub part : List ℕ → ℕ → ℕ → List ℕ
part block from to = take (to - from) (drop from block)

-- it is the property of a name, "from its token to the value's last byte": its token, the length of its value, the place of its name, and its
-- value; the name is a good property name
pub record PropertyPart (block strings name : List ℕ) (from to : ℕ) : Type 0 where
  pub head : from + 12 ≤ to
  pub within : to ≤ length block
  pub long : length (part block from to) ≡ to - from
  pub token : cell_at (part block from to) 0 ≡ 3
  pub size : cell_at (part block from to) 4 ≡ length (value_of (part block from to))
  pub named : same_text (name_at strings 0 (length strings) (cell_at (part block from to) 8)) (ended name) ≡ true
  pub good : is_property_name (ended name) ≡ true
  pub value : value_of (part block from to) ≡ take (to - (from + 12)) (drop (from + 12) block)

-- one of some properties has a name
unfoldable pub is_named : List ℕ → List Held → Bool
is_named name [] = false
is_named name (h ∷ hs) = same_text h.name (ended name) || is_named name hs

-- where a property is, and the reason: "in a CPU node's block of properties .., then in that of `/cpus`"; nowhere "when neither has it or
-- either block doesn't read as properties", with "the walk's 6, 7 or 9, the CPU block first, then 10"
pub data LooksUp (cpu parent strings name : List ℕ) : Option Found → ℕ → Type 0 where
  cpu_has : {ps qs : List Held} {from to : ℕ} → block_of cpu strings ≡ properties ps → block_of parent strings ≡ properties qs
      → is_named name ps ≡ true → PropertyPart cpu strings name from to → LooksUp cpu parent strings name (Some (InCpu from to)) 0
  parent_has : {ps qs : List Held} {from to : ℕ} → block_of cpu strings ≡ properties ps → block_of parent strings ≡ properties qs
      → is_named name ps ≡ false → is_named name qs ≡ true → PropertyPart parent strings name from to → LooksUp cpu parent strings name (Some (InParent from to)) 0
  neither_has : {ps qs : List Held} → block_of cpu strings ≡ properties ps → block_of parent strings ≡ properties qs
      → is_named name ps ≡ false → is_named name qs ≡ false → LooksUp cpu parent strings name None 10
  cpu_faulty : {n : ℕ} → block_of cpu strings ≡ refused n → LooksUp cpu parent strings name None n
  parent_faulty : {ps : List Held} {n : ℕ} → block_of cpu strings ≡ properties ps → block_of parent strings ≡ refused n
      → LooksUp cpu parent strings name None n
