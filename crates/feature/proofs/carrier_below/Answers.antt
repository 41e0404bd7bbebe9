-- `feature::carrier_below` meets its contract. Assumes nothing.
use mathlib.Core.Path.{◌≡◌, ap, ◌∙◌}
use mathlib.Core.Bool.{true, false}
use Prim.Native.Nat.{ℕ}
use native.Mathlib.Omega.{arith}
use borrow.Author.Rules.{rules}
use borrow.Author.Tests.{tests}
use lib.ListN.{take}
use Rattle.std.specs.Prelude.{None}
use Rattle.std.proofs.lemmas.Iterator.{IsFirst-from_position, YieldsList-from_slice}
use Rattle.positions.specs.Below.{first_that}
use Rattle.feature.specs.Phandles.{is_phandle, is_at}
use Rattle.feature.proofs.CarrierLaws.{finds-first}
use Rattle.feature.proofs.carrier_below.Goals as goal

pub returns : goal.returns
unfolding is_at
returns c =
    let is = is_phandle c.args.phandle in
    let ps = c.args.phandles.now in
    let found =
    IsFirst-from_position _ _ _ (λ x. is x ≡ true) (λ x. is x ≡ false) c.position.ensures.ran
    (YieldsList-from_slice (take c.min-end.result ps) cc)
    (λ x q k. search (rules, tests)) (λ x q k. search (rules, tests)) in
    finds-first is None ps (omega arith) c.position.result found
    ∙ ap (λ (n : ℕ). first_that n (is_at ps c.args.phandle)) c.min-end.ensures
