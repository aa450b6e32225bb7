-- `pack::tables::Tables::tile_count` meets its contract.
use Rattle.pack.specs.Tables.{tile_count}
use Rattle.pack.proofs.tables.Tables.tile_count.Goals as goal

pub returns-in-Rows : goal.returns-in-Rows
unfolding tile_count
returns-in-Rows c = cc

pub returns-in-Columns : goal.returns-in-Columns
unfolding tile_count
returns-in-Columns c = cc
