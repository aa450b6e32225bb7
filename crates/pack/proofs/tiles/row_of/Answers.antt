-- `pack::tiles::row_of` meets its contract.
use Rattle.pack.specs.Tables.{tile_row}
use Rattle.pack.proofs.tiles.row_of.Goals as goal

pub returns : goal.returns
unfolding tile_row
returns c = c.row_at.ensures
