-- The rules on tiles (table 5): 341, 441, 541, 551, 561, 571.
use Rattle.std.specs.Prelude.{ℕ, List, Bool, cond, not, ◌&&◌, ◌||◌, ltb, ℤ, pos, None, Some}
use Rattle.std.specs.Int.Signed.{lt_z}
use Rattle.octets.specs.Numbers.{eq_z}
use Rattle.octets.specs.Texts.{same}
use Rattle.pack.specs.Rows.{Rows, Content, Matrix, Tile}
use Rattle.rules.specs.Judgments.{none, fault_if, lowest, first_row, some, unless_some, Judgment}
use Rattle.rules.specs.Contents.{is_tiles_name}
use Rattle.rules.specs.Matrices.{matrix_named, at_level}

-- 341: tile row; its name is no tiles name
unfoldable pub of341 : Rows Content → Tile → Judgment
of341 cs t = fault_if (not (is_tiles_name cs t.name))

-- 441: tile row; no matrix row has its name and zoom
unfoldable pub of441 : Rows Matrix → Tile → Judgment
of441 ms t = unless_some (at_level t.name t.zoom) ms

-- a tile row has a name, zoom, column and row
unfoldable pub at_address : List ℕ → ℤ → ℤ → ℤ → Tile → Bool
at_address x z c r q = same x q.name && (eq_z z q.zoom && (eq_z c q.column && eq_z r q.row))

-- 541: tile row; an earlier one has its name, zoom, column and row (partner)
unfoldable pub of541 : Rows Tile → Tile → ℕ → Judgment
of541 ts t i = lowest (at_address t.name t.zoom t.column t.row) ts i

-- 551: tile zoom outside lowest to highest of its name's matrix rows; not judged if there are none.
-- Below the lowest, no matrix row of its name is at most its zoom; above the highest, none is at least its zoom
unfoldable pub at_most : Tile → Matrix → Bool
at_most t q = matrix_named t.name q && not (lt_z t.zoom q.zoom)

unfoldable pub at_least : Tile → Matrix → Bool
at_least t q = matrix_named t.name q && not (lt_z q.zoom t.zoom)

unfoldable pub of551 : Rows Matrix → Tile → Judgment
of551 ms t = cond (some (matrix_named t.name) ms) (cond (some (at_most t) ms) (unless_some (at_least t) ms) (Some none)) None

-- 561, 571: first matrix row of its name and zoom exists, and tile_column (tile_row) is below 0 or not below its width (height)
unfoldable pub off_grid : ℤ → ℤ → Bool
off_grid place size = lt_z place (pos 0) || not (lt_z place size)

-- a tile row against the first matrix row of its name and zoom, if there is one
unfoldable pub off561 : Tile → Matrix → Bool
off561 t q = off_grid t.column q.width

unfoldable pub off571 : Tile → Matrix → Bool
off571 t q = off_grid t.row q.height

unfoldable pub placed : (Tile → Matrix → Bool) → Rows Matrix → Tile → ℕ → Judgment
placed off ms t k = cond (ltb k ms.count) (fault_if (off t (ms.row k))) None

unfoldable pub of561 : Rows Matrix → Tile → Judgment
of561 ms t = placed off561 ms t (first_row (at_level t.name t.zoom) ms)

unfoldable pub of571 : Rows Matrix → Tile → Judgment
of571 ms t = placed off571 ms t (first_row (at_level t.name t.zoom) ms)
