-- What report and lookup answer of a listing whose tiles are read from columns, cs.
use Rattle.std.specs.Prelude.{ℕ, List, ℤ}
use Rattle.columns.specs.Refusals.{column_outcome}
use Rattle.columns.specs.Tiles.{column_pack}
use Rattle.findings.specs.Findings.{Finding, findings}
use Rattle.findings.specs.Answers.{findings_by, looked_up, located_by, Located}

unfoldable pub column_reported : List ℕ → List (List ℕ) → List Finding
column_reported s cs = findings_by (column_outcome s cs) (findings (column_pack s cs))

-- 10: "then 10", behind those of the columns
unfoldable pub column_lookup : List ℕ → List (List ℕ) → ℕ → ℤ → ℤ → ℤ → Located
column_lookup s cs k z c r = located_by (column_outcome s cs) (looked_up (column_pack s cs) k z c r)
