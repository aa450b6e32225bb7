-- What the loop of `report::tiles::add_541` keeps.
use mathlib.Core.Path.{◌≡◌}
use mathlib.Core.List.{map}
use lib.ListN.{length}
use Rattle.pack.specs.Tables.{tiles_in}
use Rattle.index.specs.TileKeys.{Addresses}
use Rattle.report.specs.Walks.{at541}
use Rattle.report.specs.WalkLaws.{Walking}
use Rattle.report.proofs.tiles.add_541.Given as goal

abbrev pub invariant-loop-i : goal.invariant-loop-i
invariant-loop-i l = Walking (at541 (tiles_in l.tables.form (map (λ x. x.now) l.tables.slices) l.names)) l.initial.out l.initial.tally l.n l.i l.out l.tally × Addresses (tiles_in l.tables.form (map (λ x. x.now) l.tables.slices) l.names) l.work l.heads l.i × (length l.work ≡ length l.initial.work)
