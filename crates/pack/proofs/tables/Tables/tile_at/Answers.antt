-- `pack::tables::Tables::tile_at` meets its contract.
use Rattle.pack.proofs.Laws.{tile-row, tile-entry}
use borrow.Author.Rules.{rules}
use Rattle.pack.proofs.tables.Tables.tile_at.Goals as goal

pub returns-in-Rows : goal.returns-in-Rows
returns-in-Rows c = search (tile-row, rules)

pub returns-in-Columns : goal.returns-in-Columns
returns-in-Columns c = search (tile-entry, rules)
