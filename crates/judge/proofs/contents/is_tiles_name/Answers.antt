-- `judge::contents::is_tiles_name` meets its contract.
use Rattle.judge.proofs.Laws.{searches}
use Rattle.rules.specs.Contents.{is_tiles_name}
use Rattle.judge.proofs.contents.is_tiles_name.Goals as goal

pub returns : goal.returns
unfolding is_tiles_name
returns c = search searches
