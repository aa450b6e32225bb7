-- `listing::header::start_of` meets its contract.
use Rattle.listing.proofs.Laws.{start-one, start-more}
use borrow.Author.Rules.{rules}
use Rattle.listing.proofs.header.start_of.Goals as goal

pub loop-i-init : goal.loop-i-init
loop-i-init c = search (start-one, rules)

pub loop-i-preserved : goal.loop-i-preserved
loop-i-preserved c = search (start-more, rules)
