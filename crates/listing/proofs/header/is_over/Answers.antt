-- `listing::header/is_over` meets its contract.
use Rattle.listing.proofs.Laws.{over-of}
use borrow.Author.Rules.{rules}
use Rattle.listing.proofs.header.is_over.Goals as goal

pub returns : goal.returns
returns c = search (over-of, rules)
