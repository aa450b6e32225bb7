-- What the loops of `index::tiles::index_names` keep.
use mathlib.Core.List.{map}
use Rattle.std.proofs.Common.{◌≡◌, length}
use Rattle.pack.specs.Tables.{tiles_in}
use Rattle.index.specs.TileKeys.{TileNames}
use Rattle.index.proofs.tiles.index_names.Given as goal

abbrev pub invariant-loop-i : goal.invariant-loop-i
invariant-loop-i l = TileNames (tiles_in l.tables.form (map (λ x. x.now) l.tables.slices) l.names) l.work l.heads l.i × (length l.work ≡ length l.initial.work)
