-- "Both sides of each line": worked examples of the definitions, as one table with a single statement.
use Rattle.std.specs.Prelude.{ℕ, ◌≡◌, refl, List, [], ◌∷◌, map, Bool, true, false}
use Prim.Native.String.{String}
use Rattle.octets.specs.Search.{first, any}
use Rattle.octets.specs.Texts.{same}
use Rattle.spelling.specs.Quoted.{quoted}
use Rattle.spelling.specs.Characters.{between}
use Rattle.spelling.specs.Dates.{form, fits, misfit, two_digits, four_digits, leap, month_lengths, common_length, leap_february, month_length, in_calendar, on_clock, is_date}
use Rattle.spelling.specs.ExtensionNames.{alphanumeric, name_octet, underscore_at, strange_at, inside, is_extension_name}
use Rattle.spelling.specs.LetterCase.{upper, unlike, in_any_case}
use Rattle.spelling.specs.Words.{epsg, none_word, undefined_word, tiles, features, zoom_other, read_write, write_only}

-- a text, and whether it is a date, an extension's name, or EPSG in any letter case; a list of octets, and the text that it spells
pub data Row : Type 0 where
  date : String → Bool → Row
  name : String → Bool → Row
  is_epsg : String → Bool → Row
  spells : List ℕ → String → Row

abbrev pub found : Row → Bool
found (date t b) = is_date (quoted t)
found (name t b) = is_extension_name (quoted t)
found (is_epsg t b) = in_any_case (quoted t) epsg
found (spells w t) = same (quoted t) w

abbrev pub stated : Row → Bool
stated (date t b) = b
stated (name t b) = b
stated (is_epsg t b) = b
stated (spells w t) = true

unfoldable pub rows : List Row
rows =
    date "2024-02-29T00:00:00.000Z" true
    ∷ date "2023-02-29T00:00:00.000Z" false
    ∷ date "1900-02-29T00:00:00.000Z" false
    ∷ date "2000-02-29T00:00:00.000Z" true
    ∷ date "0000-02-29T00:00:00.000Z" true
    ∷ date "2023-00-01T00:00:00.000Z" false
    ∷ date "2023-01-01T00:00:00.000Z" true
    ∷ date "2023-12-31T23:59:59.999Z" true
    ∷ date "2023-13-01T00:00:00.000Z" false
    ∷ date "2023-04-00T00:00:00.000Z" false
    ∷ date "2023-04-30T00:00:00.000Z" true
    ∷ date "2023-04-31T00:00:00.000Z" false
    ∷ date "2023-04-30T24:00:00.000Z" false
    ∷ date "2023-04-30T00:60:00.000Z" false
    ∷ date "2023-04-30T00:00:60.000Z" false
    ∷ date "2023-04-30T00:00:00.00Z" false  -- 23 octets
    ∷ date "2023-04-30T00:00:00.0000Z" false  -- 25
    ∷ date "2023-04-30T00:00:00.0x0Z" false
    ∷ date "2023-04-30T00:00:00.000z" false
    ∷ date "2023-04-30 00:00:00.000Z" false
    ∷ date "" false
    ∷ name "a_b_c" true
    ∷ name "gpkg_" false
    ∷ name "_x" false
    ∷ name "a__" true
    ∷ name "a_" false
    ∷ name "ab" false
    ∷ name "a-b_c" false
    ∷ name "a_b-c" false
    ∷ name "Z9_z0" true
    ∷ name "" false
    ∷ is_epsg "EPSG" true
    ∷ is_epsg "epsg" true
    ∷ is_epsg "EpSg" true
    ∷ is_epsg "epsgx" false
    ∷ is_epsg "EPS" false
    ∷ is_epsg "none" false
    ∷ spells form "dddd-dd-ddTdd:dd:dd.dddZ"
    ∷ spells epsg "EPSG"
    ∷ spells none_word "NONE"
    ∷ spells undefined_word "undefined"
    ∷ spells tiles "tiles"
    ∷ spells features "features"
    ∷ spells zoom_other "gpkg_zoom_other"
    ∷ spells read_write "read-write"
    ∷ spells write_only "write-only"
    ∷ []

pub worked : map found rows ≡ map stated rows
unfolding rows quoted first any same between form fits misfit two_digits four_digits leap month_lengths common_length leap_february month_length in_calendar on_clock is_date alphanumeric name_octet underscore_at strange_at inside is_extension_name upper unlike in_any_case
worked = refl
