-- `report::answers::put_located` meets its contract.
use borrow.Author.Rules.{rules}
use Rattle.report.proofs.Writing.{refused_located}
use Rattle.report.proofs.answers.put_located.Goals as goal

pub returns-in-Err : goal.returns-in-Err
returns-in-Err c = search (refused_located, rules)
