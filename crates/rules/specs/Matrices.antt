-- The rules on matrices (table 4): 351, 431, 432, 451, 452, 461, 471, 481, 491, 501, 511, 521, 531.
use Rattle.std.specs.Prelude.{ℕ, List, Bool, cond, not, ◌&&◌, ltb, ℤ, pos, None}
use Rattle.std.proofs.Math.IntN.{suc_ℤ}
use Rattle.std.specs.Int.Signed.{lt_z}
use Rattle.octets.specs.Numbers.{eq_z}
use Rattle.octets.specs.Texts.{There, same, both_same}
use Rattle.doubles.specs.Doubles.{positive, near, twice, strictly_below, spans_x, spans_y}
use Rattle.doubles.specs.declared.Extent.{Extent}
use Rattle.spelling.specs.Words.{zoom_other}
use Rattle.pack.specs.Rows.{Rows, Content, MatrixSet, Matrix, Tile, Extension}
use Rattle.rules.specs.Judgments.{fault_if, lowest, first_row, some, Judgment}
use Rattle.rules.specs.Contents.{is_tiles_name, set_named}

-- a matrix row has a name; a name and a zoom level
unfoldable pub matrix_named : List ℕ → Matrix → Bool
matrix_named x q = same x q.name

unfoldable pub at_level : List ℕ → ℤ → Matrix → Bool
at_level x z q = matrix_named x q && eq_z z q.zoom

-- 351: matrix row; its name has a tile row; a matrix row of the same name one zoom level lower (partner) has an x or y pixel size not near twice this row's.
-- Not judged if an extension row has that table_name and extension_name "gpkg_zoom_other"
unfoldable pub tile_named : List ℕ → Tile → Bool
tile_named x t = same x t.name

unfoldable pub frees : List ℕ → Extension → Bool
frees x e = both_same (There x) e.table && same e.name zoom_other

unfoldable pub near_twice : Matrix → Matrix → Bool
near_twice m q = near q.pixel_x (twice m.pixel_x) && near q.pixel_y (twice m.pixel_y)

unfoldable pub breaks351 : Matrix → Matrix → Bool
breaks351 m q = matrix_named m.name q && (eq_z (suc_ℤ q.zoom) m.zoom && not (near_twice m q))

unfoldable pub of351 : Rows Matrix → Rows Tile → Rows Extension → Matrix → Judgment
of351 ms ts es m =
    cond (some (tile_named m.name) ts) (cond (some (frees m.name) es) None (lowest (breaks351 m) ms ms.count)) None

-- 431: matrix row; no tiles name
unfoldable pub of431 : Rows Content → Matrix → Judgment
of431 cs m = fault_if (not (is_tiles_name cs m.name))

-- 432: matrix row; an earlier row has its name and zoom (partner)
unfoldable pub of432 : Rows Matrix → Matrix → ℕ → Judgment
of432 ms m i = lowest (at_level m.name m.zoom) ms i

-- 451: matrix row with a set row of its name (the first), unless width and tile width are positive, their product is at most 2^53,
-- and max_x - min_x, rounded once, is near that product times pixel_x_size, rounded once, or within four gaps of it (2026-02); 452 likewise for y
unfoldable pub fits451 : Matrix → Extent → Bool
fits451 m e = spans_x e m.width m.tile_width m.pixel_x

unfoldable pub fits452 : Matrix → Extent → Bool
fits452 m e = spans_y e m.height m.tile_height m.pixel_y

-- a matrix row against the extent of the first set row of its name, if there is one
unfoldable pub measured : (Matrix → Extent → Bool) → Rows MatrixSet → Matrix → ℕ → Judgment
measured fits ss m k = cond (ltb k ss.count) (fault_if (not (fits m (ss.row k).extent))) None

unfoldable pub of451 : Rows MatrixSet → Matrix → Judgment
of451 ss m = measured fits451 ss m (first_row (set_named m.name) ss)

unfoldable pub of452 : Rows MatrixSet → Matrix → Judgment
of452 ss m = measured fits452 ss m (first_row (set_named m.name) ss)

-- 461: zoom_level below 0
unfoldable pub of461 : Matrix → Judgment
of461 m = fault_if (lt_z m.zoom (pos 0))

-- 471, 481, 491, 501: matrix_width, matrix_height, tile_width, tile_height below 1
unfoldable pub of471 : Matrix → Judgment
of471 m = fault_if (lt_z m.width (pos 1))

unfoldable pub of481 : Matrix → Judgment
of481 m = fault_if (lt_z m.height (pos 1))

unfoldable pub of491 : Matrix → Judgment
of491 m = fault_if (lt_z m.tile_width (pos 1))

unfoldable pub of501 : Matrix → Judgment
of501 m = fault_if (lt_z m.tile_height (pos 1))

-- 511, 521: pixel x (y) size not finite and above 0
unfoldable pub of511 : Matrix → Judgment
of511 m = fault_if (not (positive m.pixel_x))

unfoldable pub of521 : Matrix → Judgment
of521 m = fault_if (not (positive m.pixel_y))

-- 531: matrix row; a row of its name with a lower zoom (partner) has an x or y pixel size that this row's is not strictly below
unfoldable pub finer : Matrix → Matrix → Bool
finer m q = strictly_below m.pixel_x q.pixel_x && strictly_below m.pixel_y q.pixel_y

unfoldable pub breaks531 : Matrix → Matrix → Bool
breaks531 m q = matrix_named m.name q && (lt_z q.zoom m.zoom && not (finer m q))

unfoldable pub of531 : Rows Matrix → Matrix → Judgment
of531 ms m = lowest (breaks531 m) ms ms.count
