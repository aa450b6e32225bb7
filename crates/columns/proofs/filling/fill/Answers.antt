-- `columns::filling::fill` meets its contract.
use Rattle.columns.proofs.Laws.{fill_refused, fill_accepted}
use borrow.Author.Rules.{rules}
use Rattle.columns.proofs.filling.fill.Goals as goal

pub returns-in_err-accept : goal.returns-in_err-accept
returns-in_err-accept c = search (fill_refused, c.in_err-accept.was, rules)

pub returns : goal.returns
returns c = search (fill_accepted, c.in_ok-accept.was, rules)
