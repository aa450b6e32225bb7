-- `desterlin::desterlin_report` meets its contract.
use Rattle.desterlin.proofs.Laws.{report_short, report_answered}
use borrow.Author.Rules.{rules}
use Rattle.desterlin.proofs.desterlin_report.Goals as goal

pub returns-then-answer-lt20 : goal.returns-then-answer-lt20
returns-then-answer-lt20 c = search (report_short, rules)

pub returns : goal.returns
returns c = search (report_answered, rules)
