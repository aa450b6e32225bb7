-- `pack::extension_at` meets its contract.
use Rattle.pack.specs.Tables.{extension_row}
use Rattle.pack.proofs.extension_at.Goals as goal

pub returns : goal.returns
unfolding extension_row
returns c = c.row_at.ensures
