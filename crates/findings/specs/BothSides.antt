-- "Both sides of each line": the lines marked * of document 01, as one table with a single statement.
use Rattle.std.specs.Prelude.{ℕ, ◌+◌, ◌≡◌, refl, List, [], ◌∷◌, ◌++◌, map, replicate, ℤ, pos, negsuc, Float}
use Prim.Native.String.{String}
use Rattle.std.specs.Float.{binary64}
use Rattle.std.specs.Float.Ieee.{lt, le, sub, mul, of_int, of_bits, to_bits}
use Rattle.octets.specs.Octets.{le32, le64, part}
use Rattle.octets.specs.Slices.{nth}
use Rattle.octets.specs.Search.{first, any}
use Rattle.octets.specs.Texts.{Null, same, text_at}
use Rattle.doubles.specs.Doubles.{positive, near, magnitude, gap_above, gap_of, difference, within_four, same_length, measures_by, measures}
use Rattle.doubles.specs.declared.Extent.{Extent}
use Rattle.spelling.specs.Dates.{form, fits, misfit, two_digits, four_digits, leap, month_lengths, common_length, leap_february, month_length, in_calendar, on_clock, is_date}
use Rattle.spelling.specs.Characters.{between}
use Rattle.spelling.specs.Quoted.{quoted}
use Rattle.spelling.specs.ExtensionNames.{alphanumeric, name_octet, underscore_at, strange_at, inside, is_extension_name}
use Rattle.utf8.specs.Utf8.{in_range, table37, size, well_formed}
use Rattle.listing.specs.Listing.{row, most, version, total, count, offset, start, table, tables_of, rows}
use Rattle.listing.specs.Refusals.{over, moved, text_base, text_count, null_count, faulty_text, faulty_row, lowest_faulty_row, faulty_table, bad_contents, header_reasons, row_reasons, outcome, number_of, table_of, row_of}
use Rattle.pack.specs.Rows.{Rows, Content, MatrixSet, Matrix, Tile, Extension, rows_in}
use Rattle.pack.specs.Tables.{tile_count, tile_in, pack_of}
use Rattle.rules.specs.Judgments.{none, partner, Judgment}
use Rattle.rules.specs.References.{has_id, lacks_id}
use Rattle.rules.specs.Contents.{of_type, is_map, none171, of151, set_named}
use Rattle.rules.specs.Matrices.{matrix_named, at_level, fits451, measured, of451}
use Rattle.rules.specs.Tiles.{off_grid, off561, placed, of561}
use Rattle.rules.specs.Extensions.{of621}
use Rattle.rules.specs.Codes.{code_at, table_at, judged, judged_none}
use Rattle.findings.specs.Findings.{Finding, found, at_row, at_none, of_code, of_place, findings}
use Rattle.findings.specs.Answers.{reported}
use Rattle.findings.specs.Words.{words_of}

-- ---- what the definitions say
abbrev pub words : List Finding → List ℕ
words [] = []
words (f ∷ fs) = words_of f ++ words fs

abbrev refused : List ℕ → List ℕ
refused s = number_of (outcome s) ∷ table_of (outcome s) ∷ row_of (outcome s) ∷ []

-- the finding that a judgment of row 0 gives
abbrev pub given : ℕ → Judgment → List ℕ
given code j = words (found code 0 j)

-- ---- the rows
-- small numbers as u32, lowest octet first
abbrev small : List ℕ → List ℕ
small [] = []
small (n ∷ ns) = n ∷ 0 ∷ 0 ∷ 0 ∷ small ns

-- version 1, length 64, all counts 0, all offsets 64
pub header_alone : List ℕ
header_alone = small (1 ∷ 64 ∷ 0 ∷ 64 ∷ 0 ∷ 64 ∷ 0 ∷ 64 ∷ 0 ∷ 64 ∷ 0 ∷ 64 ∷ 0 ∷ 64 ∷ 0 ∷ 64 ∷ [])

abbrev changed_at : String → Content
changed_at time = record { name = []; data_type = []; last_change = quoted time; srs_id = Null }

-- a double by its pattern; that of 1.0, and so many steps above it
abbrev above1 : ℕ → Float
above1 steps = of_bits binary64 (steps + 4607182418800017408)

abbrev pub extent1024 : Extent
extent1024 = record { min_x = of_int binary64 (pos 0); min_y = of_int binary64 (pos 0); max_x = of_int binary64 (pos 1024); max_y = of_int binary64 (pos 1024) }

abbrev pub sets1024 : Rows MatrixSet
sets1024 = record { count = 1; row = λ i. record { name = []; srs_id = pos 0; extent = extent1024 } }

-- width 4, tile 256, and a pixel
abbrev pub matrix4 : Float → Matrix
matrix4 pixel = record { name = []; zoom = pos 0; width = pos 4; height = pos 4; tile_width = pos 256; tile_height = pos 256; pixel_x = pixel; pixel_y = pixel }

abbrev pub matrices4 : Rows Matrix
matrices4 = record { count = 1; row = λ i. matrix4 (above1 0) }

abbrev pub tile_at_column : ℤ → Tile
tile_at_column c = record { name = []; zoom = pos 0; column = c; row = pos 0 }

abbrev extension_called : String → Extension
extension_called x = record { table = Null; column = Null; name = quoted x; scope = [] }

-- ---- the table: what the definitions say, and what document 01 says, as the words of the findings, or as a refusal and its place
abbrev pub lines : List (List ℕ × List ℕ)
lines =
    -- the header alone has the four findings
    (words (reported header_alone), 111 ∷ none ∷ none ∷ 112 ∷ none ∷ none ∷ 113 ∷ none ∷ none ∷ 171 ∷ none ∷ none ∷ [])
    -- 63 octets: refusal 1
    ∷ (refused (replicate 63 0), 1 ∷ 0 ∷ 0 ∷ [])
    -- 2024-02-29: none; 2023-02-29 and 1900-02-29: 151
    ∷ (given 151 (of151 (changed_at "2024-02-29T00:00:00.000Z")), [])
    ∷ (given 151 (of151 (changed_at "2023-02-29T00:00:00.000Z")), 151 ∷ 0 ∷ none ∷ [])
    ∷ (given 151 (of151 (changed_at "1900-02-29T00:00:00.000Z")), 151 ∷ 0 ∷ none ∷ [])
    -- extent 0 to 1024, width 4, tile 256, pixel 1.0: none; pixel four steps above 1.0: none; five steps: 451
    ∷ (given 451 (of451 sets1024 (matrix4 (above1 0))), [])
    ∷ (given 451 (of451 sets1024 (matrix4 (above1 4))), [])
    ∷ (given 451 (of451 sets1024 (matrix4 (above1 5))), 451 ∷ 0 ∷ none ∷ [])
    -- width 4: column 3 none; column 4 and column -1: 561
    ∷ (given 561 (of561 matrices4 (tile_at_column (pos 3))), [])
    ∷ (given 561 (of561 matrices4 (tile_at_column (pos 4))), 561 ∷ 0 ∷ none ∷ [])
    ∷ (given 561 (of561 matrices4 (tile_at_column (negsuc 0))), 561 ∷ 0 ∷ none ∷ [])
    -- "a_b_c": none; "gpkg_" and "_x": 621
    ∷ (given 621 (of621 (extension_called "a_b_c")), [])
    ∷ (given 621 (of621 (extension_called "gpkg_")), 621 ∷ 0 ∷ none ∷ [])
    ∷ (given 621 (of621 (extension_called "_x")), 621 ∷ 0 ∷ none ∷ [])
    ∷ []

-- the definitions say what document 01 says, on every line
pub both-sides : map (λ l. l.0) lines ≡ map (λ l. l.1) lines
unfolding header_alone quoted le32 le64 part first any same text_at positive near magnitude gap_above gap_of difference within_four same_length measures_by measures form fits misfit two_digits four_digits leap month_lengths common_length leap_february month_length in_calendar on_clock is_date between alphanumeric name_octet underscore_at strange_at inside is_extension_name row most version total count offset start table tables_of nth rows over moved text_base text_count null_count faulty_text faulty_row lowest_faulty_row faulty_table in_range table37 size well_formed bad_contents header_reasons row_reasons outcome tile_count tile_in pack_of partner has_id lacks_id of_type is_map none171 of151 set_named matrix_named at_level fits451 measured of451 off_grid off561 placed of561 of621 code_at table_at judged judged_none at_row at_none rows_in of_code of_place findings reported lt le sub mul of_int of_bits to_bits
both-sides = refl
