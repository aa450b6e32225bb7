-- `index::chains::Index::find_level` meets its contract.
use mathlib.Core.Path.{refl}
use native.Mathlib.Nat.{le_refl}
use Rattle.index.specs.declared.Key.TheVariants as key
use Rattle.index.proofs.Entering.{leads_by}
use Rattle.index.proofs.KeyLaws.{key_sound}
use Rattle.index.proofs.chains.Index.find_level.Goals as goal

pub walk-requires : goal.walk-requires
walk-requires c = let args = c.args in
    leads_by c.requires (key_sound args.matrices.now args.names.now _ (key.Level args.name args.zoom) refl) c.if-self-eq0.false c.mix_of-mix.ensures (le_refl _)
