-- `listing::refusals::place_of` meets its contract.
use Rattle.utf8.specs.MarkLaws.{marks_none}
use Rattle.listing.proofs.Laws.{found_at, found_none-at}
use borrow.Author.Rules.{rules}
use Rattle.listing.proofs.refusals.place_of.Goals as goal

pub of-names-requires : goal.of-names-requires
of-names-requires c = search (marks_none, rules)

pub returns-then-table-table_count : goal.returns-then-table-table_count
returns-then-table-table_count c = search (found_at, rules)

pub returns : goal.returns
returns c = search (found_none-at, rules)
