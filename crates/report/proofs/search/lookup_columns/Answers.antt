-- `report::search::lookup_columns` meets its contract.
use borrow.Author.Rules.{rules}
use Rattle.report.proofs.Answering.{column_lookup_refused, columns_looked}
use Rattle.report.proofs.search.lookup_columns.Goals as goal

pub returns-in_err-accept : goal.returns-in_err-accept
returns-in_err-accept c = search (column_lookup_refused, c.in_err-accept.was, rules)

pub returns : goal.returns
returns c = search (columns_looked, c.in_ok-accept.was, rules)
