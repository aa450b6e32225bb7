-- `utf8::steps::plain_blocks` meets its contract.
use native.Mathlib.Omega.{arith}
use Rattle.utf8.specs.PlainLaws.{plain_by}
use borrow.Author.Rules.{rules}
use Rattle.utf8.proofs.steps.plain_blocks.Goals as goal

pub returns : goal.returns
returns c = plain_by _ _ _ _ c.first.ensures (omega arith) (omega arith) (λ k l h. search rules)
