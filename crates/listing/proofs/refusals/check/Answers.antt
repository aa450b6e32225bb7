-- `listing::refusals/check` meets its contract.
use Rattle.listing.proofs.Laws.{cut_short}
use Rattle.listing.proofs.Outcomes.{header_fault, header-clean, header-longest}
use borrow.Author.Rules.{rules}
use Rattle.listing.proofs.refusals.check.Goals as goal

pub returns-in_err-check_header : goal.returns-in_err-check_header
returns-in_err-check_header c = search (header_fault, c.in_err-check_header.was, rules)

pub check_rows-requires : goal.check_rows-requires
check_rows-requires c = search (header-longest, cut_short, c.in_ok-check_header.was, rules)

pub returns : goal.returns
returns c = search (header-clean, c.in_ok-check_header.was, rules)
