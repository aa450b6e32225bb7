-- `listing::rows::is_ill` meets its contract.
use Rattle.listing.proofs.Laws.{null-well}
use Rattle.listing.proofs.rows.is_ill.Goals as goal

pub returns-in_default : goal.returns-in_default
returns-in_default c = simp c.in_default.is null-well

pub returns : goal.returns
returns c = simp c.in-Some.is c.is_ill.ensures
