-- What the loops of `columns::filling::fill_entries` keep.
use Rattle.columns.specs.FillLaws.{Filling}
use Rattle.columns.proofs.filling.fill_entries.Given as goal

abbrev pub invariant-loop-i : goal.invariant-loop-i
invariant-loop-i l = Filling l.tiles 0 l.n l.i l.initial.firsts l.firsts × Filling l.tiles 1 l.n l.i l.initial.zooms l.zooms × Filling l.tiles 2 l.n l.i l.initial.columns l.columns × Filling l.tiles 3 l.n l.i l.initial.rows l.rows
