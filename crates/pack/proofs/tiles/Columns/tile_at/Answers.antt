-- `pack::tiles::Columns::tile_at` meets its contract.
use Rattle.std.proofs.Common.{rules}
use Rattle.pack.specs.Columns.{entries, entry_count}
use Rattle.pack.specs.Tables.{entry_row}
use Rattle.pack.proofs.Laws.{room-entry, counted}
use Rattle.pack.proofs.tiles.Columns.tile_at.Goals as goal

pub overflow_mul-i : goal.overflow_mul-i
unfolding entry_count entries
overflow_mul-i c = search rules

pub tile_entry-requires : goal.tile_entry-requires
unfolding entry_row entry_count entries
tile_entry-requires c = search (room-entry, rules)

pub returns-then-i-count : goal.returns-then-i-count
unfolding entry_row
returns-then-i-count c = search counted

pub returns-else-i-count : goal.returns-else-i-count
unfolding entry_row
returns-else-i-count c = search counted
