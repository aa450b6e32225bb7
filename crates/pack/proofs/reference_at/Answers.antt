-- `pack::reference_at` meets its contract.
use Rattle.pack.specs.Tables.{reference_row}
use Rattle.pack.proofs.reference_at.Goals as goal

pub returns : goal.returns
unfolding reference_row
returns c = c.row_at.ensures
