-- `utf8::texts::head_of` meets its contract.
use mathlib.Core.Path.{refl}
use Rattle.utf8.specs.MarkLaws.{head_first}
use borrow.Author.Rules.{rules}
use Rattle.utf8.proofs.texts.head_of.Goals as goal

pub returns-then-v-eq0 : goal.returns-then-v-eq0
returns-then-v-eq0 c = head_first _ _ _ c.requires refl (search rules) (search rules)
