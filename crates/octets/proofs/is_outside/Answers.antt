-- `octets::is_outside` meets its contract.
use Rattle.octets.proofs.is_outside.Goals as goal

pub returns : goal.returns
returns c = simp c.in-Some.is
