-- `listing::put::start_by` meets its contract.
use Rattle.listing.specs.HeaderLaws.{start-next}
use Rattle.listing.proofs.Laws.{start_none}
use borrow.Author.Rules.{rules}
use Rattle.listing.proofs.put.start_by.Goals as goal

pub loop-i-init : goal.loop-i-init
loop-i-init c = search (start_none, rules)

pub loop-i-preserved : goal.loop-i-preserved
loop-i-preserved c = search (start-next, rules)
