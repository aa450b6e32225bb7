-- `report::search::lookup` meets its contract.
use borrow.Author.Rules.{rules}
use Rattle.report.proofs.Answering.{lookup_refused, listing_looked}
use Rattle.report.proofs.search.lookup.Goals as goal

pub returns-in_err-accept : goal.returns-in_err-accept
returns-in_err-accept c = search (lookup_refused, c.in_err-accept.was, rules)

pub returns : goal.returns
returns c = search (listing_looked, c.in_ok-accept.was, rules)
