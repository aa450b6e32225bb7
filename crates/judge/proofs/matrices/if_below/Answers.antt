-- `judge::matrices::if_below` meets its contract.
use Rattle.judge.proofs.matrices.if_below.Goals as goal

pub returns : goal.returns
returns c = simp (← c.is_less.ensures) c.fault_if.ensures
