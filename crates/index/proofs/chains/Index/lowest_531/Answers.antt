-- `index::chains::Index::lowest_531` meets its contract.
use Rattle.index.specs.Hashes.{key_mix}
use Rattle.index.proofs.KeyLaws.{named_531}
use Rattle.index.proofs.Shelving.{holds_by}
use Rattle.index.proofs.chains.Index.lowest_531.Goals as goal

pub walk_all-requires : goal.walk_all-requires
walk_all-requires c = let args = c.args in
    holds_by key_mix c.requires (named_531 args.matrices.now args.names.now args.q) c.if-self-eq0.false c.mix_of-mix.ensures
