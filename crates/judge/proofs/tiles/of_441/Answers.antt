-- `judge::tiles/of_441` meets its contract.
use Rattle.judge.proofs.Laws.{searches}
use Rattle.pack.specs.Tables.{tile_of}
use Rattle.rules.specs.Tiles.{of441}
use Rattle.judge.proofs.tiles.of_441.Goals as goal

pub returns : goal.returns
unfolding of441 tile_of
returns c = search searches
