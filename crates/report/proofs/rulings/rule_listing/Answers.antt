-- `report::rulings::rule_listing` meets its contract.
use borrow.Author.Rules.{rules}
use Rattle.report.proofs.Answering.{accepted_numbered, accepted-ruled}
use Rattle.report.proofs.rulings.rule_listing.Goals as goal

pub rule-requires : goal.rule-requires
rule-requires c = search (accepted_numbered, rules)

pub returns : goal.returns
returns c = search (accepted-ruled, rules)
