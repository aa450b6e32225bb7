-- `desterlin::desterlin_fill` meets its contract.
use Rattle.desterlin.proofs.Laws.{fill_short, fill_answered}
use borrow.Author.Rules.{rules}
use Rattle.desterlin.proofs.desterlin_fill.Goals as goal

pub returns-then-answer-lt12 : goal.returns-then-answer-lt12
returns-then-answer-lt12 c = search (fill_short, rules)

pub returns : goal.returns
returns c = search (fill_answered, rules)
