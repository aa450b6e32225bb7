-- `judge::references::judge_reference` meets its contract.
use mathlib.Core.Path.{refl}
use Rattle.judge.proofs.Others.{no_arm, reference_codes}
use borrow.Author.Rules.{rules}
use Rattle.judge.proofs.references.judge_reference.Goals as goal

pub returns-in_default : goal.returns-in_default
returns-in_default c = absurd (no_arm 1 _ reference_codes refl tt c.requires (search rules))
