-- `judge::judgments::with_earlier` meets its contract.
use Rattle.judge.proofs.Laws.{before-row, at-row}
use borrow.Author.Rules.{rules}
use Rattle.judge.proofs.judgments.with_earlier.Goals as goal

pub returns-then-i-count : goal.returns-then-i-count
returns-then-i-count c = before-row _ _ _ _ _ (rw (c.count.ensures, c.kind_of.ensures) at c.if-i-count.true) c.find.ensures c.partner_of.ensures

pub returns-else-i-count : goal.returns-else-i-count
returns-else-i-count c = search (at-row, rules)
