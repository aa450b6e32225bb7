-- `utf8::steps::is_low` meets its contract.
use Rattle.utf8.proofs.Laws.{low_mask}
use Rattle.utf8.proofs.steps.is_low.Goals as goal

pub returns : goal.returns
returns c = low_mask _
