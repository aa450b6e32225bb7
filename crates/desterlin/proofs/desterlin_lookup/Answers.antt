-- `desterlin::desterlin_lookup` meets its contract.
use Rattle.desterlin.proofs.Laws.{lookup_short, lookup_answered}
use borrow.Author.Rules.{rules}
use Rattle.desterlin.proofs.desterlin_lookup.Goals as goal

pub returns-then-answer-lt16 : goal.returns-then-answer-lt16
returns-then-answer-lt16 c = search (lookup_short, rules)

pub returns : goal.returns
returns c = search (lookup_answered, rules)
