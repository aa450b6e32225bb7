-- The list of findings is ordered "by code, then row, none last", and so holds each finding once.
use Rattle.std.specs.Prelude.{ℕ, ◌≤◌}
use Rattle.std.proofs.Common.{subst}
use Rattle.pack.specs.Rows.{Pack, rows_in}
use Rattle.rules.specs.Judgments.{none}
use Rattle.rules.specs.CodeLaws.{codes-sound}
use Rattle.findings.specs.Findings.{findings, Ordered}
use Rattle.findings.specs.Schemes.{tile_scheme}
use Rattle.findings.specs.SchemeLaws.{scheme_ordered}
use Rattle.findings.specs.FindingLaws.{tile-findings}

-- no row of the pack has the number that means none
abbrev pub Numbered : Pack → Type 0
Numbered p = (t : ℕ) → rows_in p t ≤ none

pub findings-ordered : (p : Pack) → Numbered p → Ordered (findings p)
findings-ordered p numbered = subst Ordered (tile-findings p) (scheme_ordered (tile_scheme p) codes-sound numbered)
