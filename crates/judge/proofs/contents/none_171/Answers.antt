-- `judge::contents/none_171` meets its contract.
use Rattle.judge.proofs.Laws.{searches}
use Rattle.rules.specs.Contents.{none171}
use Rattle.judge.proofs.contents.none_171.Goals as goal

pub returns : goal.returns
unfolding none171
returns c = search searches
