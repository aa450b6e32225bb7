-- `report::full::report_columns` meets its contract.
use borrow.Author.Rules.{rules}
use Rattle.report.proofs.Answering.{columns_refused, columns_numbered, columns_done}
use Rattle.report.proofs.full.report_columns.Goals as goal

pub returns-in_err-accept : goal.returns-in_err-accept
returns-in_err-accept c = search (columns_refused, c.in_err-accept.was, rules)

pub report_pack-requires : goal.report_pack-requires
report_pack-requires c = search (columns_numbered, c.in_ok-accept.was, rules)

pub returns : goal.returns
returns c = search (columns_done, c.in_ok-accept.was, rules)
