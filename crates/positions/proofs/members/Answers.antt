-- `positions::members` meets its contract. Assumes nothing.
use mathlib.Core.Path.{◌≡◌, refl, ap, ◌∙◌}
use Prim.Native.Nat.{ℕ, ◌*◌}
use native.Mathlib.Omega.{arith}
use lib.Count.{ones-le}
use Rattle.positions.specs.Below.{count}
use Rattle.positions.specs.Sets.{set_words, has, member_count}
use Rattle.positions.proofs.BelowLaws.{count-bound}
use Rattle.positions.proofs.SetLaws.{count_word}
use Rattle.positions.proofs.members.Goals as goal

pub loop-word-init : goal.loop-word-init
unfolding count
loop-word-init c = refl

pub overflow_add-n : goal.overflow_add-n
overflow_add-n c =
    let ws = c.args.s.words in
    let w = c.loop-word.word-index in
    omega (arith, ones-le 64 _ c.loop-word-test.element_fits.fits, count-bound (64 * w) (has ws))

pub loop-word-preserved : goal.loop-word-preserved
loop-word-preserved c = omega (arith, count_word c.args.s.words c.loop-word.word-index c.loop-word-test.element_fits.fits)

pub returns : goal.returns
unfolding member_count
returns c =
    let e : c.loop-word.word-index ≡ set_words = omega arith in
    c.loop-word.invariant ∙ ap (λ (m : ℕ). count (64 * m) (has c.args.s.words)) e
