-- `report::buffer::add` meets its contract.
use Rattle.report.proofs.Adding.{added-clean, added-first, added-later}
use borrow.Author.Rules.{rules}
use Rattle.report.proofs.buffer.add.Goals as goal

pub returns-in_default : goal.returns-in_default
returns-in_default c = search (added-clean, rules)

pub returns-then-total-eq0 : goal.returns-then-total-eq0
returns-then-total-eq0 c = search (added-first, rules)

pub returns : goal.returns
returns c = search (added-later, rules)
