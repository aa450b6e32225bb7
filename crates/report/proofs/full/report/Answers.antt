-- `report::full::report` meets its contract.
use borrow.Author.Rules.{rules}
use Rattle.report.proofs.Answering.{listing_refused, listing_numbered, listing_done}
use Rattle.report.proofs.full.report.Goals as goal

pub returns-in_err-accept : goal.returns-in_err-accept
returns-in_err-accept c = search (listing_refused, c.in_err-accept.was, rules)

pub report_pack-requires : goal.report_pack-requires
report_pack-requires c = search (listing_numbered, c.in_ok-accept.was, rules)

pub returns : goal.returns
returns c = search (listing_done, c.in_ok-accept.was, rules)
