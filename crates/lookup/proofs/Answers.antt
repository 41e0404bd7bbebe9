-- Equal outcomes are equal answers, so that the promise decides the answer. Assumes nothing.
use Rattle.std.specs.Prelude.{◌≡◌, Some, None, Result}
use Rattle.refusal.proofs.Numbers.{same-outcome}
use Rattle.refusal.specs.declared.Refusal.{Refusal}
use Rattle.lookup.specs.Lookup.{looked_outcome}
use Rattle.lookup.specs.declared.Found.{Found}

same-some : (a b : Found) → Some a ≡ Some b → a ≡ b
same-some a b e = cc

pub same-looked : (a b : Result Found Refusal) → looked_outcome a ≡ looked_outcome b → a ≡ b
same-looked a b e = same-outcome (λ (f : Found). Some f) None same-some a b e
