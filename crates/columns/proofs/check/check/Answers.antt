-- `columns::check::check` meets its contract.
use Rattle.columns.proofs.Laws.{check_short, check_long}
use borrow.Author.Rules.{rules}
use Rattle.columns.proofs.check.check.Goals as goal

pub returns-then-is_short : goal.returns-then-is_short
returns-then-is_short c = search (check_short, rules)

pub returns : goal.returns
returns c = search (check_long, rules)
