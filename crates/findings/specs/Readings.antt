-- The readings of documents 01 and 02 that a definition shows at once, and "Readings that look right", as one table with a single statement.
use Rattle.std.specs.Prelude.{ℕ, zero, suc, ◌+◌, ◌^◌, ◌≡◌, refl, List, [], ◌∷◌, map, ℤ, pos, negsuc, Float}
use Rattle.std.specs.Float.{nan, binary64}
use Rattle.std.specs.Float.Ieee.{lt, le, sub, mul, of_int, of_bits, to_bits}
use Rattle.octets.specs.Search.{first, any}
use Rattle.octets.specs.Texts.{Nullable, There, Null, same}
use Rattle.doubles.specs.Doubles.{positive, near, twice, magnitude, gap_above, gap_of, difference, within_four, same_length, measures_by, measures}
use Rattle.doubles.specs.DoublesWorked.{double}
use Rattle.doubles.specs.FarWorked.{hill, wide_one}
use Rattle.spelling.specs.Words.{tiles, zoom_other}
use Rattle.pack.specs.Rows.{Rows, Content, MatrixSet, Matrix, Tile, Extension}
use Rattle.rules.specs.Judgments.{none, partner, Judgment}
use Rattle.rules.specs.Contents.{of_type, set_named, breaks162, of162}
use Rattle.rules.specs.Matrices.{matrix_named, tile_named, frees, near_twice, breaks351, of351, fits451, fits452, measured, of451, of452, finer, breaks531, of531}
use Rattle.rules.specs.Tiles.{at_address, at_most, at_least, of541, of551, off_grid, off561, placed}
use Rattle.rules.specs.Extensions.{of601, equals622, of622}
use Rattle.findings.specs.BothSides.{given, extent1024}

-- ---- rows written out
abbrev pub long : {A : Type 0} → List A → ℕ
long [] = 0
long (x ∷ xs) = suc (long xs)

abbrev pub nth : {A : Type 0} → A → List A → ℕ → A
nth blank [] i = blank
nth blank (x ∷ xs) zero = x
nth blank (x ∷ xs) (suc i) = nth blank xs i

-- the rows of a list; past the last stands the first argument
abbrev pub rows_of : {A : Type 0} → A → List A → Rows A
rows_of blank xs = record { count = long xs; row = nth blank xs }

-- the texts "" and "t", which name every row below
abbrev t : List ℕ
t = 116 ∷ []

abbrev content : Nullable ℤ → Content
content id = record { name = t; data_type = tiles; last_change = []; srs_id = id }

abbrev set : ℤ → MatrixSet
set id = record { name = t; srs_id = id; extent = extent1024 }

-- a set row with no extent at all
abbrev empty : MatrixSet
empty = record { name = t; srs_id = pos 0; extent = record { min_x = nan; min_y = nan; max_x = nan; max_y = nan } }

-- a set row near the origin in x and far from it in y
abbrev upland : MatrixSet
upland = record { name = t; srs_id = pos 0; extent = hill }

abbrev sets : List MatrixSet → Rows MatrixSet
sets xs = rows_of (set (pos 0)) xs

abbrev sized : ℤ → ℤ → ℤ → Float → Matrix
sized z w tile pixel = record { name = t; zoom = z; width = w; height = w; tile_width = tile; tile_height = tile; pixel_x = pixel; pixel_y = pixel }

abbrev level : ℤ → Float → Matrix
level z pixel = sized z (pos 4) (pos 256) pixel

abbrev levels : List Matrix → Rows Matrix
levels xs = rows_of (level (pos 0) nan) xs

abbrev tile : ℤ → ℤ → Tile
tile z c = record { name = t; zoom = z; column = c; row = pos 0 }

abbrev tile_rows : List Tile → Rows Tile
tile_rows xs = rows_of (tile (pos 0) (pos 0)) xs

abbrev extension : Nullable (List ℕ) → Nullable (List ℕ) → List ℕ → Extension
extension a b x = record { table = a; column = b; name = x; scope = [] }

abbrev extensions : List Extension → Rows Extension
extensions xs = rows_of (extension Null Null []) xs

abbrev number : ℕ → Float
number n = of_int binary64 (pos n)

-- 351 of a row of pixel 1.0 at level 1 among rows of level 0, with tile rows of its name and extension rows
abbrev of351_with : List Matrix → List Tile → List Extension → Judgment
of351_with ms ts es = of351 (levels ms) (tile_rows ts) (extensions es) (level (pos 1) (number 1))

-- 451 of a width, a tile width and a pixel, in the extent 0 to 1024
abbrev of451_with : ℤ → ℤ → Float → Judgment
of451_with w size pixel = of451 (sets (set (pos 0) ∷ [])) (sized (pos 0) w size pixel)

-- ---- the table: what the definitions say, and what the reading says. The row judged is called 0; its partner is told
abbrev pub readings : List (List ℕ × List ℕ)
readings =
    -- three equal rows give two findings, both with the first as partner
    (given 541 (of541 (tile_rows (tile (pos 0) (pos 0) ∷ tile (pos 0) (pos 0) ∷ tile (pos 0) (pos 0) ∷ [])) (tile (pos 0) (pos 0)) 0), [])
    ∷ (given 541 (of541 (tile_rows (tile (pos 0) (pos 0) ∷ tile (pos 0) (pos 0) ∷ tile (pos 0) (pos 0) ∷ [])) (tile (pos 0) (pos 0)) 1), 541 ∷ 0 ∷ 0 ∷ [])
    ∷ (given 541 (of541 (tile_rows (tile (pos 0) (pos 0) ∷ tile (pos 0) (pos 0) ∷ tile (pos 0) (pos 0) ∷ [])) (tile (pos 0) (pos 0)) 2), 541 ∷ 0 ∷ 0 ∷ [])
    -- 622: NULLs are not equal; empty texts are
    ∷ (given 622 (of622 (extensions (extension (There t) Null t ∷ [])) (extension (There t) Null t) 1), [])
    ∷ (given 622 (of622 (extensions (extension Null (There t) t ∷ [])) (extension Null (There t) t) 1), [])
    ∷ (given 622 (of622 (extensions (extension (There t) (There []) t ∷ [])) (extension (There t) (There []) t) 1), 622 ∷ 0 ∷ 0 ∷ [])
    -- 601: an empty text is present
    ∷ (given 601 (of601 (extension Null (There []) t)), 601 ∷ 0 ∷ none ∷ [])
    ∷ (given 601 (of601 (extension (There []) (There t) t)), [])
    -- 162: NULL matches none, not even 0; the partner is the lowest set row with another srs_id; no set row, no finding
    ∷ (given 162 (of162 (sets (set (pos 0) ∷ [])) (content Null)), 162 ∷ 0 ∷ 0 ∷ [])
    ∷ (given 162 (of162 (sets (set (pos 7) ∷ set (pos 8) ∷ [])) (content (There (pos 7)))), 162 ∷ 0 ∷ 1 ∷ [])
    ∷ (given 162 (of162 (sets (set (pos 7) ∷ [])) (content (There (pos 7)))), [])
    ∷ (given 162 (of162 (sets []) (content Null)), [])
    -- 351: the partner is the lowest row one level lower that is not near; no tile row of the name, no finding
    ∷ (given 351 (of351_with (level (pos 0) (number 2) ∷ level (pos 0) (number 3) ∷ []) (tile (pos 9) (pos 0) ∷ []) []), 351 ∷ 0 ∷ 1 ∷ [])
    ∷ (given 351 (of351_with (level (pos 0) (number 3) ∷ []) [] []), [])
    ∷ (given 351 (of351_with (level (negsuc 0) (number 3) ∷ []) (tile (pos 0) (pos 0) ∷ []) []), [])
    -- an extension row of its name frees it; one with NULL or another name does not
    ∷ (given 351 (of351_with (level (pos 0) (number 3) ∷ []) (tile (pos 0) (pos 0) ∷ []) (extension (There t) Null zoom_other ∷ [])), [])
    ∷ (given 351 (of351_with (level (pos 0) (number 3) ∷ []) (tile (pos 0) (pos 0) ∷ []) (extension Null Null zoom_other ∷ [])), 351 ∷ 0 ∷ 0 ∷ [])
    ∷ (given 351 (of351_with (level (pos 0) (number 3) ∷ []) (tile (pos 0) (pos 0) ∷ []) (extension (There []) Null zoom_other ∷ [])), 351 ∷ 0 ∷ 0 ∷ [])
    -- 531: strict; a NaN on either side is a finding; the partner may stand after the row; equal zooms are not compared
    ∷ (given 531 (of531 (levels (level (pos 0) (number 1) ∷ [])) (level (pos 1) (number 1))), 531 ∷ 0 ∷ 0 ∷ [])
    ∷ (given 531 (of531 (levels (level (pos 0) (number 2) ∷ [])) (level (pos 1) (number 1))), [])
    ∷ (given 531 (of531 (levels (level (pos 0) nan ∷ [])) (level (pos 1) (number 1))), 531 ∷ 0 ∷ 0 ∷ [])
    ∷ (given 531 (of531 (levels (level (pos 0) (number 1) ∷ [])) (level (pos 1) nan)), 531 ∷ 0 ∷ 0 ∷ [])
    ∷ (given 531 (of531 (levels (level (pos 1) (number 1) ∷ level (negsuc 0) (number 1) ∷ [])) (level (pos 1) (number 1))), 531 ∷ 0 ∷ 1 ∷ [])
    -- 451: a product of 2^53 is judged, one more is a finding, and none wraps; the first set row counts; no set row, no finding
    ∷ (given 451 (of451_with (pos (2 ^ 53)) (pos 1) (of_bits binary64 4413527634823086080)), [])
    ∷ (given 451 (of451_with (pos (2 ^ 53 + 1)) (pos 1) (of_bits binary64 4413527634823086080)), 451 ∷ 0 ∷ none ∷ [])
    ∷ (given 451 (of451_with (pos (2 ^ 62 + 1)) (pos 4) (number 256)), 451 ∷ 0 ∷ none ∷ [])
    ∷ (given 451 (of451_with (negsuc 3) (negsuc 255) (number 1)), 451 ∷ 0 ∷ none ∷ [])
    ∷ (given 451 (of451 (sets (empty ∷ set (pos 0) ∷ [])) (level (pos 0) (number 1))), 451 ∷ 0 ∷ none ∷ [])
    ∷ (given 451 (of451 (sets (set (pos 0) ∷ empty ∷ [])) (level (pos 0) (number 1))), [])
    ∷ (given 451 (of451 (sets []) (level (pos 0) nan)), [])
    -- 2026-02: x from 0, y at 2^22, both pixels 1 + 2^-38: 451 only, since each axis has the gap of its own corners
    ∷ (given 451 (of451 (sets (upland ∷ [])) (level (pos 0) (double wide_one))), 451 ∷ 0 ∷ none ∷ [])
    ∷ (given 452 (of452 (sets (upland ∷ [])) (level (pos 0) (double wide_one))), [])
    -- 551: negative zooms count; not judged without a matrix row of the name
    ∷ (given 551 (of551 (levels (level (negsuc 1) nan ∷ level (pos 3) nan ∷ [])) (tile (pos 0) (pos 0))), [])
    ∷ (given 551 (of551 (levels (level (negsuc 1) nan ∷ level (pos 3) nan ∷ [])) (tile (negsuc 2) (pos 0))), 551 ∷ 0 ∷ none ∷ [])
    ∷ (given 551 (of551 (levels (level (negsuc 1) nan ∷ level (pos 3) nan ∷ [])) (tile (pos 4) (pos 0))), 551 ∷ 0 ∷ none ∷ [])
    ∷ (given 551 (of551 (levels []) (tile (pos 4) (pos 0))), [])
    -- 561: where the width is below 1, every column is a finding
    ∷ (given 561 (placed off561 (levels (sized (pos 0) (pos 0) (pos 256) nan ∷ [])) (tile (pos 0) (pos 0)) 0), 561 ∷ 0 ∷ none ∷ [])
    ∷ []

-- the definitions say what the readings say
pub readings_hold : map (λ l. l.0) readings ≡ map (λ l. l.1) readings
unfolding first any same positive near twice magnitude gap_above gap_of difference within_four same_length measures_by measures lt le sub mul of_int of_bits to_bits partner of_type set_named breaks162 of162 matrix_named tile_named frees near_twice breaks351 of351 fits451 fits452 measured of451 of452 finer breaks531 of531 at_address at_most at_least of541 of551 off_grid off561 placed of601 equals622 of622
readings_hold = refl
