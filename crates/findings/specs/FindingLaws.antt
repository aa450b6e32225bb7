-- The findings of a pack are those of the scheme of tiles, and the laws of schemes hold of them: what there is of a code, and how many there are.
use Rattle.std.specs.Prelude.{ℕ, ◌+◌, ◌*◌, ◌<◌, ◌≤◌, ◌≡◌, refl, length}
use Rattle.octets.specs.Gather.{gather}
use Rattle.pack.specs.Rows.{Pack, rows_in}
use Rattle.rules.specs.Codes.{codes, tables, code_count, code_at, table_at}
use Rattle.rules.specs.CodeLaws.{codes-sound, codes-ascend}
use Rattle.findings.specs.Findings.{at_row, at_none, of_code, of_place, findings, only}
use Rattle.findings.specs.Schemes.{code_in, table_in, at_row_by, at_none_by, of_code_by, of_place_by, findings_of, tile_scheme}
use Rattle.findings.specs.SchemeLaws.{scheme_only, scheme_rows_length, scheme_places_length}

pub tile-findings : (p : Pack) → findings_of (tile_scheme p) ≡ findings p
unfolding findings_of of_place_by of_code_by at_row_by at_none_by code_in table_in findings of_place of_code at_row at_none code_at table_at
tile-findings p = refl

pub ascending : (j k : ℕ) → j < k → k < code_count → code_at j < code_at k
unfolding code_at
ascending = codes-ascend codes tables codes-sound

-- the findings of a code are those of the full list that have it, in that order
pub only-place : (p : Pack) (k : ℕ) → k < code_count → only (code_at k) (findings p) ≡ of_place p k
unfolding findings_of of_place_by of_code_by at_row_by at_none_by code_in table_in findings of_place of_code at_row at_none code_at table_at
only-place p = scheme_only (tile_scheme p) codes-sound

-- ---- how many there are: at most one a row
pub rows-length : (p : Pack) (c n : ℕ) → length (gather n (at_row p c)) ≤ n
unfolding at_row at_row_by
rows-length p = scheme_rows_length (tile_scheme p)

-- at most one a row and one more for a code
pub places_length : (p : Pack) (m k : ℕ) → ((t : ℕ) → rows_in p t ≤ m) → length (gather k (of_place p)) ≤ k * (m + 1)
unfolding of_place_by of_code_by at_row_by at_none_by code_in table_in of_place of_code at_row at_none code_at table_at
places_length p m k h = scheme_places_length (tile_scheme p) m h k
