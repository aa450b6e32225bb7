-- `report::notes::report_metadata` meets its contract.
use borrow.Author.Rules.{rules}
use Rattle.report.proofs.Answering.{notes_refused, notes_few, notes_done}
use Rattle.report.proofs.notes.report_metadata.Goals as goal

pub returns-in_err-accept : goal.returns-in_err-accept
returns-in_err-accept c = search (notes_refused, c.in_err-accept.was, rules)

pub report_notes-requires : goal.report_notes-requires
report_notes-requires c = search (notes_few, c.in_ok-accept.was, rules)

pub returns : goal.returns
returns c = search (notes_done, c.in_ok-accept.was, rules)
