-- `report::notes::report_notes` meets its contract.
use borrow.Author.Rules.{rules}
use Rattle.report.specs.PromiseLaws.{counted}
use Rattle.report.proofs.notes.report_notes.Goals as goal

pub returns : goal.returns
returns c = let a = rw c.of.ensures at c.add_codes.ensures in search (counted, rules)
