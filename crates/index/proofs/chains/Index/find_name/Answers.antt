-- `index::chains::Index::find_name` meets its contract.
use mathlib.Core.List.{map}
use native.Mathlib.Nat.{le_refl}
use Rattle.pack.specs.Tables.{tiles_in}
use Rattle.index.proofs.Entering.{leads_by}
use Rattle.index.proofs.TileKeyLaws.{name-sound}
use Rattle.index.proofs.chains.Index.find_name.Goals as goal

pub returns-then-self-eq0 : goal.returns-then-self-eq0
returns-then-self-eq0 c = rw c.tile_count-n.ensures at c.first_of_name.ensures

pub walk-requires : goal.walk-requires
walk-requires c = let args = c.args in
    let ts = tiles_in args.tables.form (map (λ x. x.now) args.tables.slices) args.names.now in
    rw c.tile_count-n.ensures (leads_by c.requires (λ k e. name-sound ts k _ _ e) c.if-self-eq0.false c.mix_of-mix.ensures (le_refl _))

pub returns : goal.returns
returns c = rw c.tile_count-n.ensures at c.walk.ensures
