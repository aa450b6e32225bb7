-- `judge::references::of_undefined` meets its contract.
use Rattle.judge.proofs.references.of_undefined.Goals as goal

pub returns : goal.returns
returns c = simp (← c.is_wrong_undefined.ensures) c.fault_if.ensures
