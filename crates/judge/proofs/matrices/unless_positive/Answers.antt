-- `judge::matrices::unless_positive` meets its contract.
use Rattle.judge.proofs.matrices.unless_positive.Goals as goal

pub returns : goal.returns
returns c = simp (← c.is_positive.ensures) c.fault_if.ensures
