-- `judge::matrices::first_step` meets its contract.
use Rattle.judge.proofs.Confining.{confines_351}
use Rattle.judge.proofs.matrices.first_step.Goals as goal

pub lowest-requires : goal.lowest-requires
lowest-requires c = record { shelves = c.requires; key_confines = confines_351 _ _ c.args.q c.one_less.result c.one_less.ensures }
