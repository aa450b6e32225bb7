-- `judge::contents::judge_contents` meets its contract.
use mathlib.Core.Path.{refl}
use Rattle.judge.proofs.Others.{no_arm, contents_codes}
use borrow.Author.Rules.{rules}
use Rattle.judge.proofs.contents.judge_contents.Goals as goal

pub returns-in_default : goal.returns-in_default
returns-in_default c = absurd (no_arm 2 _ contents_codes refl tt c.requires (search rules))
