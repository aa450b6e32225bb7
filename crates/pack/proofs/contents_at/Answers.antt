-- `pack::contents_at` meets its contract.
use Rattle.pack.specs.Tables.{contents_row}
use Rattle.pack.proofs.contents_at.Goals as goal

pub returns : goal.returns
unfolding contents_row
returns c = c.row_at.ensures
