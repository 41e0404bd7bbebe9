-- `listing::compose` meets its contract.
use Rattle.listing.proofs.LineLaws.{number_is, place_is, is-refused, is-read, refused-past, refused-first}
use Rattle.listing.proofs.compose.Goals as goal

pub invariant_of-put_line : goal.invariant_of-put_line
invariant_of-put_line c = record { read = is-read _ c.in-Ok.ensures }

pub returns-in-Err : goal.returns-in-Err
returns-in-Err c = refused-past _ (is-refused _ _ c.in-Err.ensures) c.if-k-ne0.true

pub returns-in-Err-2 : goal.returns-in-Err-2
returns-in-Err-2 c =
    let e = c.in-Err.ensures in
    refused-first _ (is-refused _ _ e) c.if-k-ne0.false (number_is _ _ e) (place_is _ _ e) c.put_refusal.ensures
