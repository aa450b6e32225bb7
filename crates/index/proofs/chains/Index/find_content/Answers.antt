-- `index::chains::Index::find_content` meets its contract.
use native.Mathlib.Nat.{le_refl}
use Rattle.index.proofs.Entering.{leads_by}
use Rattle.index.proofs.KeyLaws.{content-sound}
use Rattle.index.proofs.chains.Index.find_content.Goals as goal

pub walk-requires : goal.walk-requires
walk-requires c = let args = c.args in
    leads_by c.requires (content-sound args.contents.now args.names.now args.x.now) c.if-self-eq0.false c.mix_by.ensures (le_refl _)
