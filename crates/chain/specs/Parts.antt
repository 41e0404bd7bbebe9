-- What the private functions behind the chain by slots promise.
use Rattle.std.specs.Prelude.{ℕ, ◌<◌, ◌≡◌, cond, List, get_or}
use Rattle.positions.specs.Sets.{set_words, collect}
use Rattle.closure.specs.Slots.{slots_below}
use Rattle.chain.specs.declared.Bounded.{Bounded}

-- those of n positions whose dependencies are all among the n, and their counts; none is counted for another position
pub record BoundedPart (slots counts : List ℕ) (n : ℕ) (r : Bounded) : Type 0 where
  pub members : r.set.words ≡ collect set_words n (slots_below slots counts n)
  pub counted : (i : ℕ) → i < n → get_or r.counts i 0 ≡ cond (slots_below slots counts n i) (get_or counts i 0) 0
