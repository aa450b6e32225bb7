-- `listing::header/is_moved` meets its contract.
use Rattle.listing.proofs.Laws.{moved_yes, moved_no, moved-end}
use borrow.Author.Rules.{rules}
use Rattle.listing.proofs.header.is_moved.Goals as goal

pub returns-then-offset_of-start_of : goal.returns-then-offset_of-start_of
returns-then-offset_of-start_of c = search (moved_yes, rules)

pub returns-then-k-last : goal.returns-then-k-last
returns-then-k-last c = search (moved-end, rules)

pub returns-else-k-last : goal.returns-else-k-last
returns-else-k-last c = search (moved_no, rules)
