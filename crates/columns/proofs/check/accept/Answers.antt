-- `columns::check::accept` meets its contract.
use Rattle.columns.proofs.Laws.{names-most, tiles-most, accept_refused, accept_fault, accept_clean}
use borrow.Author.Rules.{rules}
use Rattle.columns.proofs.check.accept.Goals as goal

pub returns-in_err-layout : goal.returns-in_err-layout
returns-in_err-layout c = search (accept_refused, c.in_err-layout.was, rules)

pub check-requires : goal.check-requires
check-requires c = search (names-most, tiles-most, c.in_ok-layout.was, rules)

pub returns-in_err-check : goal.returns-in_err-check
returns-in_err-check c = search (accept_fault, c.in_ok-layout.was, c.in_err-check.was, rules)

pub returns : goal.returns
returns c = search (accept_clean, c.in_ok-layout.was, c.in_ok-check.was, rules)
