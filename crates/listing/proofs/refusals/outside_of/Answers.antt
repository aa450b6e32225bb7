-- `listing::refusals/outside_of` meets its contract.
use Rattle.listing.specs.FaultLaws.{none_first}
use borrow.Author.Rules.{rules}
use Rattle.listing.proofs.refusals.outside_of.Goals as goal

pub returns : goal.returns
returns c = search (none_first, rules)
