-- `desterlin::desterlin_write` meets its contract.
use Rattle.desterlin.proofs.Laws.{write_short, write_answered}
use borrow.Author.Rules.{rules}
use Rattle.desterlin.proofs.desterlin_write.Goals as goal

pub returns-then-answer-lt16 : goal.returns-then-answer-lt16
returns-then-answer-lt16 c = search (write_short, rules)

pub returns : goal.returns
returns c = search (write_answered, rules)
