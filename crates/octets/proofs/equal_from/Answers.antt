-- `octets::equal_from` meets its contract.
use Rattle.octets.proofs.TextLaws.{unlike-octet, alike_end}
use Rattle.octets.specs.TextLaws.{alike-octet}
use borrow.Author.Rules.{rules}
use Rattle.octets.proofs.equal_from.Goals as goal

pub returns-then-a-i : goal.returns-then-a-i
returns-then-a-i c = search (unlike-octet, rules)

pub loop-i-preserved : goal.loop-i-preserved
loop-i-preserved c = search (alike-octet, rules)

pub returns : goal.returns
returns c = search (alike_end, rules)
