-- The rules on reference systems (table 1): 101, 111, 112, 113.
use Rattle.std.specs.Prelude.{ℕ, Bool, not, ◌&&◌, ℤ, pos, negsuc}
use Rattle.octets.specs.Numbers.{eq_z}
use Rattle.octets.specs.Texts.{same}
use Rattle.spelling.specs.LetterCase.{in_any_case}
use Rattle.spelling.specs.Words.{epsg, none_word, undefined_word}
use Rattle.pack.specs.Rows.{Rows, Reference}
use Rattle.rules.specs.Judgments.{fault_if, lowest, unless_some, Judgment}

-- a reference row has an srs_id
unfoldable pub has_id : ℤ → Reference → Bool
has_id id r = eq_z id r.srs_id

-- 101: reference row; an earlier row has its srs_id (partner)
unfoldable pub of101 : Rows Reference → Reference → ℕ → Judgment
of101 rs r i = lowest (has_id r.srs_id) rs i

-- 111: srs_id 4326, but organization is not EPSG in any letter case, or coordsys id is not 4326
unfoldable pub wrong111 : Reference → Bool
wrong111 r = has_id (pos 4326) r && not (in_any_case r.organization epsg && eq_z (pos 4326) r.coordsys_id)

unfoldable pub of111 : Reference → Judgment
of111 r = fault_if (wrong111 r)

-- 112, 113: srs_id -1 (or 0), but organization is not NONE in any letter case, or coordsys id is not -1 (0), or definition is not "undefined"
unfoldable pub wrong_undefined : ℤ → Reference → Bool
wrong_undefined id r = has_id id r && not (in_any_case r.organization none_word && (eq_z id r.coordsys_id && same r.definition undefined_word))

unfoldable pub of112 : Reference → Judgment
of112 r = fault_if (wrong_undefined (negsuc 0) r)

unfoldable pub of113 : Reference → Judgment
of113 r = fault_if (wrong_undefined (pos 0) r)

-- 111, 112, 113 "also give one finding with row none where no reference row has that id"
unfoldable pub lacks_id : ℤ → Rows Reference → Judgment
lacks_id id rs = unless_some (has_id id) rs
