-- What the report on metadata answers of a tile listing s with its sibling m.
use Rattle.std.specs.Prelude.{ℕ, List, None}
use Rattle.metadata.specs.Rows.{Notebook, rows_of}
use Rattle.metadata.specs.Tables.{notebook_of}
use Rattle.metadata.specs.Codes.{codes, tables, judged}
use Rattle.metadata.specs.Refusals.{metadata_outcome}
use Rattle.findings.specs.Findings.{Finding}
use Rattle.findings.specs.Schemes.{Scheme, findings_of}
use Rattle.findings.specs.Answers.{findings_by}

-- the eight codes, on notes and links; none has a finding without a row
abbrev pub metadata_scheme : Notebook → Scheme
metadata_scheme p = record { codes = codes; tables = tables; rows = rows_of p; says = judged p; says_none = λ _. None }

unfoldable pub metadata_reported : List ℕ → List ℕ → List Finding
metadata_reported s m = findings_by (metadata_outcome s m) (findings_of (metadata_scheme (notebook_of s m)))
