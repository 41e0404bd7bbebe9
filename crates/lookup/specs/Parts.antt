-- What the parts of the look-up's code answer. The promises of the public functions rest on `Lookup`, not on this file.
use Rattle.std.specs.Prelude.{ℕ, ◌+◌, ◌≡◌, Bool, List, [], ◌∷◌, length, Option, Some, None, Result, Ok, Err}
use Rattle.strings.specs.Strings.{Text}
use Rattle.refusal.specs.Refusal.{number_of}
use Rattle.refusal.specs.declared.Refusal.{Refusal}
use Rattle.refusal.specs.declared.Refusal.TheVariants.{Token as TokenFault}
use Rattle.tokens.specs.declared.Cursor.{Cursor}
use Rattle.tokens.specs.declared.Step.{Step}
use Rattle.tokens.specs.declared.Step.TheVariants.{BeginNode, EndNode, Property, Nop, End, Fault}
use Rattle.tokens.specs.Steps.{pick, step_at}
use Rattle.tokens.specs.Tokens.{Token, tokens}
use Rattle.properties.specs.Properties.{name_at, given_before, name_fault}
use Rattle.lookup.specs.declared.Span.{Span}
use Rattle.lookup.specs.declared.Entry.{Entry}
use Rattle.lookup.specs.declared.Entry.TheVariants.{Named, Skip}
use Rattle.lookup.specs.Lookup.{Held, Block, properties, refused, held_as}

-- the name at an offset of the strings block
abbrev pub name_in : List ℕ → ℕ → Text
name_in strings = name_at strings 0 (length strings)

-- the tokens of a block, from a place on
abbrev pub block_tokens : List ℕ → List ℕ → ℕ → List Token
block_tokens block strings at = tokens block (length block) (name_in strings) at

-- the fault of the name at an offset, of a property at t: 7, 9, or 0 for none
abbrev pub fault_of : List ℕ → List ℕ → ℕ → ℕ → ℕ
fault_of block strings t offset = name_fault (name_in strings offset) (given_before t (name_in strings offset) (block_tokens block strings 0))

abbrev pub span : ℕ → ℕ → Span
span from to = record { from = from; to = to }

-- neither a property nor a NOP
abbrev pub Misplaced : Step → Type 0
Misplaced (BeginNode t name) = Unit
Misplaced (EndNode t next) = Unit
Misplaced (Property t value size offset next) = ⊥
Misplaced (Nop t next) = ⊥
Misplaced (End t) = Unit
Misplaced (Fault t) = Unit

-- what stands at a place of a block
pub data Stands (block strings : List ℕ) (at : ℕ) : Result Entry Refusal → Type 0 where
  named : {t v l o : ℕ} {c : Cursor} → step_at block (length block) at ≡ Property t v l o c → fault_of block strings t o ≡ 0
      → Stands block strings at (Ok (Named o (span t (v + l)) c))
  skipped : {t : ℕ} {c : Cursor} → step_at block (length block) at ≡ Nop t c → Stands block strings at (Ok (Skip c))
  misnamed : {t v l o : ℕ} {c : Cursor} {r : Refusal} → step_at block (length block) at ≡ Property t v l o c → number_of r ≡ fault_of block strings t o
      → Stands block strings at (Err r)
  misplaced : {x : Step} → step_at block (length block) at ≡ x → Misplaced x → Stands block strings at (Err TokenFault)

-- the hit, where one more property follows, and whether it has the name sought
abbrev pub first_hit : Option Span → Bool → ℕ → ℕ → Option Span
first_hit (Some first) same from to = Some first
first_hit None same from to = pick same (Some (span from to)) None

abbrev pub hit_of : List Held → Option Span
hit_of [] = None
hit_of (h ∷ hs) = Some (span h.from h.to)

-- a block that reads as properties, with the hit among them
pub record Whole (name : List ℕ) (block : Block) (hit : Option Span) : Type 0 where
  pub held : List Held
  pub all : block ≡ properties held
  pub first : hit ≡ hit_of (held_as name held)

-- or that does not
abbrev pub Reads : List ℕ → Block → Result (Option Span) Refusal → Type 0
Reads name block (Ok hit) = Whole name block hit
Reads name block (Err refusal) = block ≡ refused (number_of refusal)
