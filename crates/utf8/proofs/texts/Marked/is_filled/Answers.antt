-- `utf8::texts::Marked::is_filled` meets its contract.
use native.Mathlib.Omega.{arith}
use Rattle.utf8.specs.MarkLaws.{front-back}
use borrow.Author.Rules.{rules}
use Rattle.utf8.proofs.texts.Marked.is_filled.Goals as goal

pub returns-then-is_front : goal.returns-then-is_front
returns-then-is_front c = λ e. front-back _ _ _ _ (search rules) (c.is_back.ensures e) (omega arith) (search rules)
