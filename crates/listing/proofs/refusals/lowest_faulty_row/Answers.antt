-- `listing::refusals::lowest_faulty_row` meets its contract.
use Rattle.listing.proofs.Laws.{below_eight, below_last}
use borrow.Author.Rules.{rules}
use Rattle.listing.proofs.refusals.lowest_faulty_row.Goals as goal

pub table_at-requires : goal.table_at-requires
table_at-requires c = search (below_eight, below_last, rules)
