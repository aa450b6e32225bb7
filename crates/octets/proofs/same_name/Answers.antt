-- `octets::same_name` meets its contract.
use Rattle.octets.proofs.TextLaws.{same_place}
use borrow.Author.Rules.{rules}
use Rattle.octets.proofs.same_name.Goals as goal

pub returns-then-a-b-2 : goal.returns-then-a-b-2
returns-then-a-b-2 c = search (same_place, rules)

pub returns : goal.returns
returns c = cc
