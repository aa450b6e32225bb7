-- `report::rulings::verdict` meets its contract.
use borrow.Author.Rules.{rules}
use Rattle.report.specs.PromiseLaws.{accepted-by, verdict_unlisted}
use Rattle.report.proofs.Answering.{verdict_handed, verdict-ruled}
use Rattle.report.proofs.rulings.verdict.Goals as goal

pub returns-in_default : goal.returns-in_default
returns-in_default c = search (verdict_unlisted, rules)

pub returns-in_err-accept : goal.returns-in_err-accept
returns-in_err-accept c = verdict_handed _ _ _ _ c.in-Some.ensures.0 c.in-Some.ensures.1 _ c.accept.ensures _ _ c.in_err-accept.was c.from_residual.ensures.1

pub rule_listing-requires : goal.rule_listing-requires
rule_listing-requires c = search (accepted-by, c.in_ok-accept.was, rules)

pub returns : goal.returns
returns c = search (verdict-ruled, c.in_ok-accept.was, rules)
