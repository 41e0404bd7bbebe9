-- What stands next in a node, for each kind of token. Assumes nothing.
use Rattle.std.specs.Prelude.{Option, Ok}
use Rattle.std.specs.Option.{ok_or}
use Rattle.std.specs.Int.{next_multiple_of}
use mathlib.Core.Path.{◌≡◌, sym, ap, ◌∙◌}
use mathlib.Core.List.{List}
use Prim.Native.Nat.{ℕ, ◌+◌, ◌*◌, ◌/◌}
use Rattle.header.specs.declared.Blocks.{Blocks}
use Rattle.refusal.specs.Refusal.{answer, refuse}
use native.Mathlib.Omega.{arith}
use Rattle.refusal.specs.declared.RefusedAt.{RefusedAt}
use Rattle.properties.proofs.LookBack.{was-given}
use Rattle.names.specs.Names.{name_outcome, node_name_at}
use Rattle.tokens.specs.declared.Cursor.{Cursor}
use Rattle.tokens.specs.declared.Step.TheVariants.{BeginNode, EndNode, Property, Nop, End, Fault}
use Rattle.tokens.specs.Steps.{step_at}
use Rattle.walk.specs.Parts.{skip, child, close, stop_at, child_part, part_at}

-- the name of a child node, which was read
pub child-named : (s : List ℕ) (from end : ℕ) (o : Option ℕ) {n : ℕ} (given : RefusedAt) → name_outcome o ≡ node_name_at s from end → Ok n ≡ ok_or o given
    → node_name_at s from end ≡ answer n
child-named s from end o given e k = sym e ∙ ap name_outcome (was-given o given _ k)

module _ (s : List ℕ) (b : Blocks) (t from : ℕ) where
  pub child-good : {n : ℕ} → node_name_at s from b.end ≡ answer n → child t from n (from + (n / 4 + 1) * 4) ≡ child_part s b t from
  unfolding child_part
  child-good e = rw (e, child_part)

  pub child-bad : node_name_at s from b.end ≡ refuse 0 7 → stop_at 7 t ≡ child_part s b t from
  unfolding child_part
  child-bad e = rw (e, child_part)

  -- the place behind the name and its zero byte, padded
  pub child-read : {n room : ℕ} → node_name_at s from b.end ≡ answer n → room ≡ next_multiple_of (n + 1) 4 → child t from n (from + room) ≡ child_part s b t from
  child-read {n} e k =
      let q : next_multiple_of (n + 1) 4 ≡ (n / 4 + 1) * 4 = omega arith in
      rw (k, q) (child-good e)

-- by the step
module _ (s : List ℕ) (b : Blocks) (at : ℕ) {t : ℕ} where
  pub part-begin : {c : Cursor} → step_at s b.end at ≡ BeginNode t c → child_part s b t c.at ≡ part_at s b at
  unfolding part_at
  part-begin e = rw (e, part_at)

  pub part-end-node : {c : Cursor} → step_at s b.end at ≡ EndNode t c → close c.at ≡ part_at s b at
  unfolding part_at
  part-end-node e = rw (e, part_at)

  pub part-property : {v l o : ℕ} {c : Cursor} → step_at s b.end at ≡ Property t v l o c → stop_at 6 t ≡ part_at s b at
  unfolding part_at
  part-property e = rw (e, part_at)

  pub part-nop : {c : Cursor} → step_at s b.end at ≡ Nop t c → skip c.at ≡ part_at s b at
  unfolding part_at
  part-nop e = rw (e, part_at)

  pub part_end : step_at s b.end at ≡ End t → stop_at 6 t ≡ part_at s b at
  unfolding part_at
  part_end e = rw (e, part_at)

  pub part-fault : step_at s b.end at ≡ Fault t → stop_at 6 t ≡ part_at s b at
  unfolding part_at
  part-fault e = rw (e, part_at)

pub ruleset parts = (part-begin, part-end-node, part-property, part-nop, part_end, part-fault)
