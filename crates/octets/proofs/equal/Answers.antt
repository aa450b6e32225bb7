-- `octets::equal` meets its contract.
use Rattle.octets.proofs.TextLaws.{unlike-length, unlike_eight}
use Rattle.octets.specs.TextLaws.{alike-start, alike_eight}
use borrow.Author.Rules.{rules}
use Rattle.octets.proofs.equal.Goals as goal

pub returns-then-a-b : goal.returns-then-a-b
returns-then-a-b c = search (unlike-length, rules)

pub loop-i-init : goal.loop-i-init
loop-i-init c = search (alike-start, rules)

pub returns-then-long : goal.returns-then-long
returns-then-long c = search (unlike_eight, rules)

pub loop-i-preserved : goal.loop-i-preserved
loop-i-preserved c = search (alike_eight, rules)
