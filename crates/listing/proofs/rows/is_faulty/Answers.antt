-- `listing::rows::is_faulty` meets its contract.
use Rattle.listing.proofs.Laws.{outside_yes, outside_no, either_no}
use borrow.Author.Rules.{rules}
use Rattle.listing.proofs.rows.is_faulty.Goals as goal

pub returns-then-is_outside : goal.returns-then-is_outside
returns-then-is_outside c = search (outside_yes, rules)

pub returns-in-Outside : goal.returns-in-Outside
returns-in-Outside c = search (outside_no, rules)

pub returns-in-Either : goal.returns-in-Either
returns-in-Either c = search (either_no, rules)
