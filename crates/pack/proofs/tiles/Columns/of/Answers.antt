-- `pack::tiles::Columns::of` meets its contract.
use Rattle.pack.specs.Tables.{tile_count, tile_in}
use Rattle.pack.proofs.tiles.Columns.of.Goals as goal

pub returns-clause-count : goal.returns-clause-count
unfolding tile_count
returns-clause-count c = cc

pub returns-clause-tile : goal.returns-clause-tile
unfolding tile_in
returns-clause-tile c = λ i. cc
