-- `desterlin::desterlin_verdict` meets its contract.
use Rattle.desterlin.proofs.Laws.{verdict_short, verdict_answered}
use borrow.Author.Rules.{rules}
use Rattle.desterlin.proofs.desterlin_verdict.Goals as goal

pub returns-then-answer-lt20 : goal.returns-then-answer-lt20
returns-then-answer-lt20 c = search (verdict_short, rules)

pub returns : goal.returns
returns c = search (verdict_answered, rules)
