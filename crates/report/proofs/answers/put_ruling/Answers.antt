-- `report::answers::put_ruling` meets its contract.
use borrow.Author.Rules.{rules}
use Rattle.report.proofs.Writing.{refused-ruling}
use Rattle.report.proofs.answers.put_ruling.Goals as goal

pub returns-in-Err : goal.returns-in-Err
returns-in-Err c = search (refused-ruling, rules)
