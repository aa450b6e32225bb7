-- `judge::tiles::has_level` meets its contract.
use Rattle.judge.proofs.Laws.{searches}
use Rattle.judge.proofs.tiles.has_level.Goals as goal

pub lowest-requires : goal.lowest-requires
lowest-requires c = record { shelves = c.requires.shelves; key_confines = c.requires.confines }

pub returns : goal.returns
returns c = search searches
