-- `index::chains::Index::lowest` meets its contract.
use Rattle.index.specs.Hashes.{key_mix}
use Rattle.index.proofs.Shelving.{holds_by}
use Rattle.index.proofs.chains.Index.lowest.Goals as goal

pub walk_all-requires : goal.walk_all-requires
walk_all-requires c = holds_by key_mix c.requires.shelves c.requires.key_confines.within c.if-self-eq0.false c.mix.ensures
