-- What a block reads as, by the token at a place. Assumes nothing.
use mathlib.Core.Path.{◌≡◌, refl, sym, ap}
use mathlib.Core.Bool.{Bool, true, false}
use mathlib.Core.List.{List, [], ◌∷◌, ◌++◌, append_assoc}
use Prim.Native.Nat.{ℕ, zero, suc, ◌+◌, ◌<◌, ◌≤◌}
use native.Mathlib.Omega.{arith}
use borrow.Author.Tests.{lt-ltb, le-ltb}
use lib.ListN.{length}
use Rattle.strings.specs.Strings.{Text}
use Rattle.names.specs.Names.{is_property_name}
use Rattle.tokens.specs.declared.Step.{Step}
use Rattle.tokens.specs.declared.Step.TheVariants.{BeginNode, EndNode, Property, Nop, End, Fault}
use Rattle.tokens.specs.Steps.{pick, step_at}
use Rattle.properties.specs.Properties.{among}
use Rattle.lookup.specs.Lookup.{Held, Block, properties, refused, and_then, block_from}
use Rattle.lookup.specs.Parts.{name_in, Misplaced}

-- a property, by the tests of its name
abbrev pub checked : Bool → Bool → Held → Block → Block
checked good given h rest = pick good (pick given (refused 9) (and_then h rest)) (refused 7)

abbrev pub held : List ℕ → ℕ → ℕ → ℕ → Held
held strings offset from to = record { name = name_in strings offset; from = from; to = to }

-- a block from a place on, by the token there
abbrev pub read_step : (List Text → ℕ → Block) → List ℕ → List Text → Step → Block
read_step rest strings seen (BeginNode t name) = refused 6
read_step rest strings seen (EndNode t next) = refused 6
read_step rest strings seen (Property t value size offset next) =
    checked (is_property_name (name_in strings offset)) (among (name_in strings offset) seen) (held strings offset t (value + size))
    (rest (seen ++ name_in strings offset ∷ []) next.at)
read_step rest strings seen (Nop t next) = rest seen next.at
read_step rest strings seen (End t) = refused 6
read_step rest strings seen (Fault t) = refused 6

module _ (block strings : List ℕ) (seen : List Text) (at : ℕ) where
  pub block-done : (most : ℕ) → length block ≤ at → block_from most block strings seen at ≡ properties []
  unfolding block_from
  block-done zero h = refl
  block-done (suc most) h = rw (le-ltb at (length block) h, block_from)

  pub block-step : (most : ℕ) → at < length block → {x : Step} → step_at block (length block) at ≡ x
      → block_from (suc most) block strings seen at ≡ read_step (block_from most block strings) strings seen x
  unfolding block_from
  block-step most h {x} e = rw (lt-ltb at (length block) h, e, block_from) (go x)
    where
      go : (x : Step) → (elim x as (λ _. Block) [ Property t value size offset next ↦ checked (is_property_name (name_in strings offset)) (among (name_in strings offset) seen) (held strings offset t (value + size)) (block_from most block strings (seen ++ name_in strings offset ∷ []) next.at) | Nop t next ↦ block_from most block strings seen next.at | BeginNode t name ↦ refused 6 | EndNode t next ↦ refused 6 | End t ↦ refused 6 | Fault t ↦ refused 6 ])
          ≡ read_step (block_from most block strings) strings seen x
      go (BeginNode t name) = refl
      go (EndNode t next) = refl
      go (Property t value size offset next) = refl
      go (Nop t next) = refl
      go (End t) = refl
      go (Fault t) = refl

-- a token that has no place there
pub step-misplaced : (rest : List Text → ℕ → Block) (strings : List ℕ) (seen : List Text) (x : Step) → Misplaced x → read_step rest strings seen x ≡ refused 6
step-misplaced rest strings seen (BeginNode t name) h = refl
step-misplaced rest strings seen (EndNode t next) h = refl
step-misplaced rest strings seen (Property t v l o next) h = absurd h
step-misplaced rest strings seen (Nop t next) h = absurd h
step-misplaced rest strings seen (End t) h = refl
step-misplaced rest strings seen (Fault t) h = refl

-- a property, by the fault of its name
pub taken : (good given : Bool) (h : Held) (rest : Block) → ◌≡◌ {A = ℕ} (pick good (pick given 9 0) 7) 0 → checked good given h rest ≡ and_then h rest
taken true true h rest e = absurd (omega arith)
taken true false h rest e = refl
taken false given h rest e = absurd (omega arith)

pub not_taken : (good given : Bool) (h : Held) (rest : Block) {n : ℕ} → n ≡ pick good (pick given 9 0) 7 → (n ≡ 0 → ⊥) → checked good given h rest ≡ refused n
not_taken true true h rest e z = ap refused (sym e)
not_taken true false h rest e z = absurd (z e)
not_taken false given h rest e z = ap refused (sym e)

-- those read, and then what follows
abbrev pub after_held : List Held → Block → Block
after_held hs (properties ks) = properties (hs ++ ks)
after_held hs (refused n) = refused n

pub after_none : (b : Block) → after_held [] b ≡ b
after_none (properties ks) = refl
after_none (refused n) = refl

pub after_more : (hs : List Held) (h : Held) (b : Block) → after_held (hs ++ h ∷ []) b ≡ after_held hs (and_then h b)
after_more hs h (properties ks) = ap properties (append_assoc hs (h ∷ []) ks)
after_more hs h (refused n) = refl
