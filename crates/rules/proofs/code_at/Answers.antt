-- `rules::code_at` meets its contract.
use Rattle.rules.specs.Codes.{code_at}
use borrow.Author.Rules.{rules}
use Rattle.rules.proofs.code_at.Goals as goal

pub returns : goal.returns
unfolding code_at
returns c = search rules
