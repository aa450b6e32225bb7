-- `octets::long` meets its contract.
use Rattle.octets.specs.Octets.{le64}
use borrow.Author.Rules.{rules}
use Rattle.octets.proofs.long.Goals as goal

pub word-requires : goal.word-requires
unfolding le64
word-requires c = search rules

pub word-requires-2 : goal.word-requires-2
unfolding le64
word-requires-2 c = search rules

pub returns : goal.returns
unfolding le64
returns c = search rules
