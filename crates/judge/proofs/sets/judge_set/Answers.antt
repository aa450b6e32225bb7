-- `judge::sets::judge_set` meets its contract.
use mathlib.Core.Path.{refl}
use Rattle.judge.proofs.Others.{no_arm, set_codes}
use borrow.Author.Rules.{rules}
use Rattle.judge.proofs.sets.judge_set.Goals as goal

pub returns-in_default : goal.returns-in_default
returns-in_default c = absurd (no_arm 3 _ set_codes refl tt c.requires (search rules))
