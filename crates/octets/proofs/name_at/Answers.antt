-- `octets::name_at` meets its contract.
use Rattle.octets.proofs.name_at.Goals as goal

pub returns : goal.returns
returns c = cc
