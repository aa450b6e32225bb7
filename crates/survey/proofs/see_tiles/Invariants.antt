-- What the loop of `survey::see_tiles` keeps.
use mathlib.Core.List.{map}
use Rattle.pack.specs.Tables.{matrices_of, tiles_in}
use Rattle.rules.specs.Tiles.{off561, off571}
use Rattle.survey.specs.Surveys.{level_at, placed_at, Quiet}
use Rattle.survey.proofs.see_tiles.Given as goal

abbrev pub invariant-loop-i : goal.invariant-loop-i
invariant-loop-i l = Quiet (level_at (matrices_of l.matrices l.names) (tiles_in l.tables.form (map (λ x. x.now) l.tables.slices) l.names)) l.i l.levels
    × Quiet (placed_at off561 (matrices_of l.matrices l.names) (tiles_in l.tables.form (map (λ x. x.now) l.tables.slices) l.names)) l.i l.columns
    × Quiet (placed_at off571 (matrices_of l.matrices l.names) (tiles_in l.tables.form (map (λ x. x.now) l.tables.slices) l.names)) l.i l.rows
