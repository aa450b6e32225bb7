-- `pack::matrix_at` meets its contract.
use Rattle.pack.specs.Tables.{matrix_row}
use Rattle.pack.proofs.matrix_at.Goals as goal

pub returns : goal.returns
unfolding matrix_row
returns c = c.row_at.ensures
