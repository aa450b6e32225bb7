-- A report in general: the findings of any codes, by any rules.
use Rattle.std.specs.Prelude.{ℕ, List, ◌++◌, get_or, length}
use Rattle.octets.specs.Gather.{gather}
use Rattle.pack.specs.Rows.{Pack, rows_in}
use Rattle.rules.specs.Judgments.{none, Judgment}
use Rattle.rules.specs.Codes.{codes, tables, seek, judged, judged_none}
use Rattle.findings.specs.Findings.{Finding, found}

-- What a report goes by: its codes in their order, and the table of each; how many rows a table has; what the rule of a code says of a row, and without one
pub record Scheme : Type 0 where
  pub codes : List ℕ
  pub tables : List ℕ
  pub rows : ℕ → ℕ
  pub says : ℕ → ℕ → Judgment
  pub says_none : ℕ → Judgment

-- the code at a place, and its table
unfoldable pub code_in : Scheme → ℕ → ℕ
code_in r k = get_or r.codes k 0

unfoldable pub table_in : Scheme → ℕ → ℕ
table_in r k = get_or r.tables k 0

-- the table of a code; 0 where it is none of them
unfoldable pub table_by : Scheme → ℕ → ℕ
table_by r c = seek r.codes r.tables c

-- the finding that a row has by a code, if any, and the one that a code has without a row
unfoldable pub at_row_by : Scheme → ℕ → ℕ → List Finding
at_row_by r c i = found c i (r.says c i)

unfoldable pub at_none_by : Scheme → ℕ → List Finding
at_none_by r c = found c none (r.says_none c)

-- the findings of a code: its table's rows in order, then the one without a row
unfoldable pub of_code_by : Scheme → ℕ → ℕ → List Finding
of_code_by r c t = gather (r.rows t) (at_row_by r c) ++ at_none_by r c

-- those of the code at a place, and all: "by code, then row, none last"
unfoldable pub of_place_by : Scheme → ℕ → List Finding
of_place_by r k = of_code_by r (code_in r k) (table_in r k)

unfoldable pub findings_of : Scheme → List Finding
findings_of r = gather (length r.codes) (of_place_by r)

-- ---- the report on tiles: the 36 codes and the rules on a pack
abbrev pub tile_scheme : Pack → Scheme
tile_scheme p = record { codes = codes; tables = tables; rows = rows_in p; says = judged p; says_none = judged_none p }
