-- `octets::is_name` meets its contract.
use Rattle.octets.proofs.is_name.Goals as goal

pub returns : goal.returns
returns c = cc
