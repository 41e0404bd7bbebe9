-- A look-up finds the property, with reason 0, or finds nothing, with reason 6, 7, 9 or 10. Assumes nothing.
use mathlib.Core.Path.{refl, sym, subst}
use mathlib.Core.Bool.{Bool, true, false}
use mathlib.Core.List.{List, [], ◌∷◌, ◌++◌}
use Prim.Native.Nat.{ℕ, zero, suc, ◌+◌, ◌<◌}
use native.Mathlib.Omega.{arith}
use native.Mathlib.Decide.{dec_lt}
use lib.ListN.{length}
use Rattle.strings.specs.Strings.{Text}
use Rattle.names.specs.Names.{is_property_name}
use Rattle.tokens.specs.declared.Step.{Step}
use Rattle.tokens.specs.declared.Step.TheVariants.{BeginNode, EndNode, Property, Nop, End, Fault}
use Rattle.tokens.specs.Steps.{step_at}
use Rattle.properties.specs.Properties.{among}
use Rattle.lookup.specs.Lookup.{Held, Block, properties, refused, and_then, block_from, block_of, held_as, or_parent, in_either, lookup, not_found, reason_of, reason}
use Rattle.lookup.specs.Parts.{name_in}
use Rattle.lookup.specs.Reasons.{BlockFault, token, name, repeated, LookupEnds, in_cpu, in_parent, not_there, faulty}
use Rattle.lookup.proofs.Blocks.{checked, held, read_step, block-done, block-step}

-- a block reads as properties, or has one of three faults
abbrev Reads : Block → Type 0
Reads (properties hs) = Unit {0}
Reads (refused n) = BlockFault n

and-then : (h : Held) (b : Block) → Reads b → Reads (and_then h b)
and-then h (properties hs) r = tt
and-then h (refused n) r = r

property-reads : (good given : Bool) (h : Held) (rest : Block) → Reads rest → Reads (checked good given h rest)
property-reads true true h rest r = repeated
property-reads true false h rest r = and-then h rest r
property-reads false given h rest r = name

step-reads : (rest : List Text → ℕ → Block) (strings : List ℕ) (seen : List Text) → ((names : List Text) (at : ℕ) → Reads (rest names at)) → (x : Step)
    → Reads (read_step rest strings seen x)
step-reads rest strings seen f (BeginNode t n) = token
step-reads rest strings seen f (EndNode t next) = token
step-reads rest strings seen f (Property t value size offset next) =
    let names = seen ++ name_in strings offset ∷ [] in
    property-reads (is_property_name (name_in strings offset)) (among (name_in strings offset) seen) (held strings offset t (value + size))
    (rest names next.at) (f names next.at)
step-reads rest strings seen f (Nop t next) = f seen next.at
step-reads rest strings seen f (End t) = token
step-reads rest strings seen f (Fault t) = token

block_reads : (most : ℕ) (block strings : List ℕ) (seen : List Text) (at : ℕ) → Reads (block_from most block strings seen at)
unfolding block_from
block_reads zero block strings seen at = tt
block_reads (suc most) block strings seen at = go (dec_lt at (length block)) (block_reads most block strings)
  where
    go : Dec (at < length block) → ((names : List Text) (at : ℕ) → Reads (block_from most block strings names at)) → Reads (block_from (suc most) block strings seen at)
    go (yes h) f = subst Reads (sym (block-step block strings seen at most h refl)) (step-reads (block_from most block strings) strings seen f (step_at block (length block) at))
    go (no h) f = subst Reads (sym (block-done block strings seen at (suc most) (omega arith))) tt

found-ends : (sought : List ℕ) (ps qs : List Held) → LookupEnds (or_parent sought ps qs) (not_found (or_parent sought ps qs))
found-ends sought (p ∷ ps) qs = in_cpu
found-ends sought [] (q ∷ qs) = in_parent
found-ends sought [] [] = not_there

blocks_end : (sought : List ℕ) (b p : Block) → Reads b → Reads p → LookupEnds (in_either sought b p) (reason_of (in_either sought b p) b p)
blocks_end sought (properties ps) (properties qs) r s = found-ends sought (held_as sought ps) (held_as sought qs)
blocks_end sought (properties ps) (refused n) r s = faulty s
blocks_end sought (refused n) p r s = faulty r

pub lookup-ends : (cpu parent strings sought : List ℕ) → LookupEnds (lookup cpu parent strings sought) (reason cpu parent strings sought)
unfolding lookup reason block_of
lookup-ends cpu parent strings sought =
    blocks_end sought (block_from (length cpu) cpu strings [] 0) (block_from (length parent) parent strings [] 0)
    (block_reads (length cpu) cpu strings [] 0) (block_reads (length parent) parent strings [] 0)
