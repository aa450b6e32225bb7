-- `report::full::report_pack` meets its contract.
use borrow.Author.Rules.{rules}
use Rattle.report.specs.PromiseLaws.{counted}
use Rattle.report.proofs.full.report_pack.Goals as goal

pub returns : goal.returns
returns c = search (counted, rules)
