-- `metadata::read::LinkRowRow::read` meets its contract.
use Rattle.metadata.specs.Tables.{link_at}
use Rattle.metadata.proofs.read.LinkRowRow.read.Goals as goal

pub returns : goal.returns
unfolding link_at
returns c = cc
