-- What each test of matrix rows means, in the words of the rules.
use Rattle.std.specs.Prelude.{ℕ, List, Bool}
use Rattle.octets.specs.Numbers.{signed}
use Rattle.octets.specs.Texts.{spell}
use Rattle.pack.specs.Rows.{Matrix}
use Rattle.pack.specs.Tables.{matrix_of, tile_of}
use Rattle.rules.specs.Matrices.{matrix_named, at_level, breaks351, breaks531}
use Rattle.rules.specs.Tiles.{at_most, at_least}
use Rattle.seek.specs.declared.MatrixTest.{MatrixTest}
use Rattle.seek.specs.declared.MatrixTest.TheVariants as matrix

abbrev pub matrix_passes : List ℕ → MatrixTest → Matrix → Bool
matrix_passes names (matrix.Named x) q = matrix_named (spell names x) q
matrix_passes names (matrix.Level x z) q = at_level (spell names x) (signed z) q
matrix_passes names (matrix.AtMost t) q = at_most (tile_of names t) q
matrix_passes names (matrix.AtLeast t) q = at_least (tile_of names t) q
matrix_passes names (matrix.Breaks351 m) q = breaks351 (matrix_of names m) q
matrix_passes names (matrix.Breaks531 m) q = breaks531 (matrix_of names m) q
