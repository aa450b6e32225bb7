-- `listing::header/size_of` meets its contract.
use Rattle.listing.proofs.Laws.{size_small, size_fits}
use borrow.Author.Rules.{rules}
use Rattle.listing.proofs.header.size_of.Goals as goal

pub overflow_mul-result : goal.overflow_mul-result
overflow_mul-result c = search (size_fits, rules)

pub returns : goal.returns
returns c = (cc, search (size_small, rules))
