-- The rules that measure along an axis: 451 and 561 go by x, 452 and 571 by y.
use Rattle.std.specs.Prelude.{Bool}
use Rattle.doubles.specs.declared.Extent.{Extent}
use Rattle.pack.specs.Rows.{Rows, MatrixSet, Matrix, Tile}
use Rattle.rules.specs.Judgments.{first_row, Judgment}
use Rattle.rules.specs.Contents.{set_named}
use Rattle.rules.specs.Matrices.{at_level, fits451, fits452, measured}
use Rattle.rules.specs.Tiles.{off561, off571, placed}
use Rattle.judge.specs.declared.Axis.{Axis}
use Rattle.judge.specs.declared.Axis.TheVariants.{X, Y}

abbrev pub fits_along : Axis → Matrix → Extent → Bool
fits_along X = fits451
fits_along Y = fits452

abbrev pub off_along : Axis → Tile → Matrix → Bool
off_along X = off561
off_along Y = off571

-- of451 and of452; of561 and of571
abbrev pub of_measured : Axis → Rows MatrixSet → Matrix → Judgment
of_measured a ss m = measured (fits_along a) ss m (first_row (set_named m.name) ss)

abbrev pub of_placed : Axis → Rows Matrix → Tile → Judgment
of_placed a ms t = placed (off_along a) ms t (first_row (at_level t.name t.zoom) ms)
