-- `listing::refusals/accept` meets its contract.
use Rattle.listing.proofs.Outcomes.{accept_fault, accept_clean}
use borrow.Author.Rules.{rules}
use Rattle.listing.proofs.refusals.accept.Goals as goal

pub returns-in_err-check : goal.returns-in_err-check
returns-in_err-check c = search (accept_fault, c.in_err-check.was, rules)

pub returns : goal.returns
returns c = search (accept_clean, c.in_ok-check.was, rules)
