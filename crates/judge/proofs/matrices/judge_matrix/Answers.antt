-- `judge::matrices::judge_matrix` meets its contract.
use mathlib.Core.Path.{refl}
use Rattle.judge.proofs.Others.{no_arm, matrix_codes}
use borrow.Author.Rules.{rules}
use Rattle.judge.proofs.matrices.judge_matrix.Goals as goal

pub returns-in_default : goal.returns-in_default
returns-in_default c = absurd (no_arm 4 _ matrix_codes refl tt c.requires (search rules))
