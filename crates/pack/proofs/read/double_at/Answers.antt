-- `pack::read/double_at` meets its contract.
use Rattle.pack.proofs.read.double_at.Goals as goal

pub returns : goal.returns
returns c = cc
