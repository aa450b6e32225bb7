-- `listing::rows/is_flagged` meets its contract.
use Rattle.listing.proofs.Laws.{contents-end, link-end}
use borrow.Author.Rules.{rules}
use Rattle.listing.proofs.rows.is_flagged.Goals as goal

pub is_bad_contents-requires : goal.is_bad_contents-requires
is_bad_contents-requires c = search (contents-end, rules)

pub is_bad_link-requires : goal.is_bad_link-requires
is_bad_link-requires c = search (link-end, rules)
