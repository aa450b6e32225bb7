-- `pack::set_at` meets its contract.
use Rattle.pack.specs.Tables.{set_row}
use Rattle.pack.proofs.set_at.Goals as goal

pub returns : goal.returns
unfolding set_row
returns c = c.row_at.ensures
