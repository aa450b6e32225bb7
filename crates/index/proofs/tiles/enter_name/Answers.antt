-- `index::tiles::enter_name` meets its contract.
use mathlib.Core.List.{map}
use native.Mathlib.Nat.{le_of_lt}
use Rattle.pack.specs.Tables.{tiles_in}
use Rattle.index.proofs.Entering.{heads_there, leads_by, may_settle, entered}
use Rattle.index.proofs.TileKeyLaws.{name-sound, name-own, name-read}
use Rattle.index.proofs.tiles.enter_name.Goals as goal

pub walk-r-requires : goal.walk-r-requires
walk-r-requires c = let pre = c.requires in
    let args = c.args in
    let ts = tiles_in args.tables.form (map (λ x. x.now) args.tables.slices) args.names.now in
    leads_by pre.1 (λ k e. name-sound ts k _ _ e) (heads_there pre.0) c.mix_of-mix.ensures (le_of_lt pre.2)

pub settle-requires : goal.settle-requires
settle-requires c = let pre = c.requires in
    may_settle pre.1 (heads_there pre.0) c.mix_of-mix.ensures.1 pre.2

pub returns : goal.returns
returns c = let pre = c.requires in
    let read = c.tile_at.ensures in
    (entered pre.1 pre.2 (name-own _ _ _ _ _ read) (name-read _ _ _ _ _ read) c.walk-r.ensures c.mix_of-mix.ensures c.settle.ensures).indexed
