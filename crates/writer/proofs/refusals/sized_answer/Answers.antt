-- `writer::refusals::sized_answer` meets its contract.
use Rattle.writer.specs.PartLaws.{sized-short}
use Rattle.writer.proofs.Laws.{rows_fault, rows-clean}
use borrow.Author.Rules.{rules}
use Rattle.writer.proofs.refusals.sized_answer.Goals as goal

pub check_rows-requires : goal.check_rows-requires
check_rows-requires c = search (sized-short, rules)

pub returns-in_err-check_rows : goal.returns-in_err-check_rows
returns-in_err-check_rows c = search (rows_fault, c.in_err-check_rows.was, rules)

pub returns : goal.returns
returns c = search (rows-clean, c.in_ok-check_rows.was, rules)
