-- `judge::extensions::judge_extension` meets its contract.
use mathlib.Core.Path.{refl}
use Rattle.judge.proofs.Others.{no_arm, extension_codes}
use borrow.Author.Rules.{rules}
use Rattle.judge.proofs.extensions.judge_extension.Goals as goal

pub returns-in_default : goal.returns-in_default
returns-in_default c = absurd (no_arm 6 _ extension_codes refl tt c.requires (search rules))
