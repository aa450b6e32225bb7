-- `judge::tiles::judge_tile` meets its contract.
use mathlib.Core.Path.{refl}
use Rattle.judge.proofs.Others.{no_arm, tile_codes}
use borrow.Author.Rules.{rules}
use Rattle.judge.proofs.tiles.judge_tile.Goals as goal

pub returns-in_default : goal.returns-in_default
returns-in_default c = absurd (no_arm 5 _ tile_codes refl tt c.requires (search rules))
