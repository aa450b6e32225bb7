-- `listing::refusals/is_faulty_table` meets its contract.
use Rattle.listing.proofs.Laws.{below_eight, below_last, faulty_table-of}
use borrow.Author.Rules.{rules}
use Rattle.listing.proofs.refusals.is_faulty_table.Goals as goal

pub table_at-requires : goal.table_at-requires
table_at-requires c = search (below_eight, below_last, rules)

pub returns : goal.returns
returns c = search (faulty_table-of, rules)
