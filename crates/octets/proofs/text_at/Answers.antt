-- `octets::text_at` meets its contract.
use Rattle.octets.specs.Texts.{text_at}
use borrow.Author.Rules.{rules}
use Rattle.octets.proofs.text_at.Goals as goal

pub word-requires : goal.word-requires
unfolding text_at
word-requires c = search rules

pub word-requires-2 : goal.word-requires-2
unfolding text_at
word-requires-2 c = search rules

pub text_of-requires : goal.text_of-requires
unfolding text_at
text_of-requires c = search rules

pub returns : goal.returns
unfolding text_at
returns c = cc
