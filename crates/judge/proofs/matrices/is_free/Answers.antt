-- `judge::matrices::is_free` meets its contract.
use Rattle.judge.proofs.Laws.{searches}
use Rattle.judge.proofs.matrices.is_free.Goals as goal

pub returns : goal.returns
returns c = search searches
