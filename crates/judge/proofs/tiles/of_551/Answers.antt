-- `judge::tiles/of_551` meets its contract.
use Rattle.pack.specs.Tables.{tile_of}
use Rattle.judge.specs.RangeLaws.{inside_551}
use borrow.Author.Rules.{rules}
use Rattle.judge.proofs.tiles.of_551.Goals as goal

pub returns-then-first_level-n : goal.returns-then-first_level-n
unfolding tile_of
returns-then-first_level-n c = inside_551 _ _ _ c.first_level.ensures c.if-first_level-n.true

pub returns : goal.returns
unfolding tile_of
returns c = search rules
