-- `words::words` meets its contract. The loop's invariant: the bits are those of the features passed. Assumes nothing.
use mathlib.Core.Path.{refl, ◌∙◌}
use native.Mathlib.Omega.{arith}
use Rattle.std.proofs.lemmas.Result.{err_from_is_err_and}
use Rattle.refusal.proofs.Numbers.{numbered}
use Rattle.words.proofs.AnswerLaws.{few, words-refused, words-answered}
use Rattle.words.proofs.BitsLaws.{bits-begin, bits-more, bits-all, values-are}
use Rattle.words.proofs.words.Goals as goal

pub returns-in_err-x : goal.returns-in_err-x
returns-in_err-x c =
    let p = err_from_is_err_and c.from_residual.result c.from_residual.ensures.1 in
    rw (p.1, p.2) (words-refused _ _ _ c.in_err-x.ensures (numbered _))

pub loop-i-init : goal.loop-i-init
loop-i-init c = bits-begin _ _

pub bounds-r-i : goal.bounds-r-i
bounds-r-i c = omega (arith, few _ _ _ c.in_ok-x.ensures refl)

pub loop-i-preserved : goal.loop-i-preserved
loop-i-preserved c = bits-more _ _ _ c.loop-i.invariant c.member.ensures c.feature_bits.ensures c.bitor-bits.ensures

pub returns : goal.returns
returns c =
    words-answered _ _ _ c.in_ok-x.ensures refl refl c.closed_part-set.ensures
    (c.values_of.ensures ∙ values-are _ _ _ _ (bits-all _ _ (omega arith) c.loop-i.invariant))
