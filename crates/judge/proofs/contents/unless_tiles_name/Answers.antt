-- `judge::contents::unless_tiles_name` meets its contract.
use Rattle.judge.proofs.contents.unless_tiles_name.Goals as goal

pub returns : goal.returns
returns c = simp (← c.is_tiles_name.ensures) c.fault_if.ensures
