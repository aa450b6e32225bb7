-- `pack::tiles::Columns::count` meets its contract.
use Rattle.pack.specs.Columns.{entries, entry_count}
use Rattle.pack.proofs.tiles.Columns.count.Goals as goal

pub returns : goal.returns
unfolding entry_count entries
returns c = rw (c.min-left.ensures, c.min-right.ensures) at c.min.ensures
