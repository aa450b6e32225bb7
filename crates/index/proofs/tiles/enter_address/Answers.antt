-- `index::tiles::enter_address` meets its contract.
use mathlib.Core.List.{map}
use native.Mathlib.Nat.{le_of_lt}
use Rattle.pack.specs.Tables.{tiles_in}
use Rattle.index.proofs.Entering.{leads_by, may_settle, entered, entered-none}
use Rattle.index.proofs.TileKeyLaws.{address_sound, address_own, address_read}
use Rattle.index.proofs.tiles.enter_address.Goals as goal

pub returns-then-heads-eq0 : goal.returns-then-heads-eq0
returns-then-heads-eq0 c = entered-none c.if-heads-eq0.true (address_read _ _ _ _ _ c.tile_at-a.ensures) c.first_at.ensures

pub walk-r-requires : goal.walk-r-requires
walk-r-requires c = let pre = c.requires in
    let args = c.args in
    let ts = tiles_in args.tables.form (map (λ x. x.now) args.tables.slices) args.names.now in
    leads_by pre.0 (λ k e. address_sound ts k _ e) c.if-heads-eq0.false c.mix_of-mix.ensures (le_of_lt pre.1)

pub settle-requires : goal.settle-requires
settle-requires c = may_settle c.requires.0 c.if-heads-eq0.false c.mix_of-mix.ensures.1 c.requires.1

pub returns : goal.returns
returns c = let pre = c.requires in
    let read = c.tile_at-a.ensures in
    entered pre.0 pre.1 (address_own _ _ _ _ _ read) (address_read _ _ _ _ _ read) c.walk-r.ensures c.mix_of-mix.ensures c.settle.ensures
