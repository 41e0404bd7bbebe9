-- Bytes past a chain stay in the lent buffer (A5). Assumes nothing.
use Prim.Native.Nat.{ℕ, min}
use mathlib.Core.List.{List}
use lib.ListN.{length}
use Rattle.refusal.proofs.Checks.{passes-both}
use Rattle.cells.specs.Buffer.{Stays}
use Rattle.cells.proofs.Writing.{front_fits, call_stays}
use Rattle.record.specs.declared.Record.{Record}
use Rattle.record.specs.Record.{most_features}
use Rattle.permitted.specs.declared.Grants.{Grants}
use Rattle.permitted.specs.Permitted.{permitted_set}
use Rattle.permitted.specs.Asked.{asked_checks}
use Rattle.chain.specs.Chain.{chain_in, chain_checks, chain, after_chain}
use Rattle.chain.specs.Slots.{slot_chain, slot_checks, chain_by_slots, after_chain_by_slots}

pub chain-stays : (r : Record) (level : ℕ) (g : Grants) (i : ℕ) (old : List ℕ)
    → Stays old 0 (chain r level g i (length old)).value (after_chain r level g i old)
unfolding chain after_chain chain_checks
chain-stays r level g i old =
    let told = chain_in r (permitted_set r level g) i in
    call_stays old 0 told (chain_checks r level g i (length old))
    (λ p. let position = (passes-both (asked_checks r level) _ p).1 in front_fits told (length old) position.1.1.0)

pub slots-stay : (slots counts : List ℕ) (n : ℕ) (set : List ℕ) (i : ℕ) (old : List ℕ)
    → Stays old 0 (chain_by_slots slots counts n set i (length old)).value (after_chain_by_slots slots counts n set i old)
unfolding chain_by_slots after_chain_by_slots slot_checks
slots-stay slots counts n set i old =
    let told = slot_chain slots counts (min n most_features) set i in
    call_stays old 0 told (slot_checks slots counts (min n most_features) set i (length old)) (λ p. front_fits told (length old) p.1.1.0)
