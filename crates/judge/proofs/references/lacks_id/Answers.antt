-- `judge::references::lacks_id` meets its contract.
use Rattle.judge.proofs.Laws.{searches}
use Rattle.rules.specs.References.{lacks_id}
use Rattle.judge.proofs.references.lacks_id.Goals as goal

pub returns : goal.returns
unfolding lacks_id
returns c = search searches
