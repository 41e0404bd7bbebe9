-- `listing::all_granted` meets its contract.
use Rattle.listing.specs.Listing.{all_granted}
use Rattle.listing.proofs.all_granted.Goals as goal

pub returns : goal.returns
unfolding all_granted
returns c = rw (c.empty.ensures, c.empty-2.ensures)
