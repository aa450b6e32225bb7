-- The rules on contents (table 2): 131, 151, 161, 162, 171, 401; and tiles names.
use Rattle.std.specs.Prelude.{ℕ, List, Bool, false, cond, not, ◌&&◌, ◌||◌, ℤ, None}
use Rattle.octets.specs.Numbers.{eq_z}
use Rattle.octets.specs.Texts.{Nullable, There, Null, same}
use Rattle.spelling.specs.Dates.{is_date}
use Rattle.spelling.specs.Words.{tiles, features}
use Rattle.pack.specs.Rows.{Rows, Reference, Content, MatrixSet}
use Rattle.rules.specs.Judgments.{fault_if, lowest, some, unless_some, Judgment}
use Rattle.rules.specs.References.{has_id}

-- a contents row has a data_type
unfoldable pub of_type : List ℕ → Content → Bool
of_type w c = same c.data_type w

-- "Tiles name" means a text equal to the table_name of some contents row with data_type "tiles"
unfoldable pub gives_tiles : List ℕ → Content → Bool
gives_tiles x c = same x c.name && of_type tiles c

unfoldable pub is_tiles_name : Rows Content → List ℕ → Bool
is_tiles_name cs x = some (gives_tiles x) cs

-- a contents row, a set row, has a name
unfoldable pub content_named : List ℕ → Content → Bool
content_named x c = same x c.name

unfoldable pub set_named : List ℕ → MatrixSet → Bool
set_named x q = same x q.name

-- 131: contents row; an earlier row has its table_name (partner)
unfoldable pub of131 : Rows Content → Content → ℕ → Judgment
of131 cs c i = lowest (content_named c.name) cs i

-- 151: last_change is not YYYY-MM-DDThh:mm:ss.sssZ
unfoldable pub of151 : Content → Judgment
of151 c = fault_if (not (is_date c.last_change))

-- 161: contents srs_id is present and no reference row has it
abbrev pub lacks161 : Rows Reference → Nullable ℤ → Judgment
lacks161 rs (There id) = unless_some (has_id id) rs
lacks161 rs Null = None

unfoldable pub of161 : Rows Reference → Content → Judgment
of161 rs c = lacks161 rs c.srs_id

-- 162: data_type "tiles" and a set row of its name has another srs_id, NULL matching none (partner: that set row)
abbrev pub is_id : Nullable ℤ → ℤ → Bool
is_id (There a) id = eq_z a id
is_id Null id = false

unfoldable pub breaks162 : Content → MatrixSet → Bool
breaks162 c q = set_named c.name q && not (is_id c.srs_id q.srs_id)

unfoldable pub of162 : Rows MatrixSet → Content → Judgment
of162 ss c = cond (of_type tiles c) (lowest (breaks162 c) ss ss.count) None

-- 171: no contents row has data_type "tiles" or "features" (row none)
unfoldable pub is_map : Content → Bool
is_map c = of_type tiles c || of_type features c

unfoldable pub none171 : Rows Content → Judgment
none171 cs = unless_some is_map cs

-- 401: contents row with "tiles" and no set row of its name
unfoldable pub of401 : Rows MatrixSet → Content → Judgment
of401 ss c = cond (of_type tiles c) (unless_some (set_named c.name) ss) None
