-- "The report holds all findings, each once, by rule then row, and no other": of every octet string.
use Rattle.std.specs.Prelude.{ℕ, ◌<◌, ◌≡◌, true, ◌↔◌, Ok, Err}
use Rattle.std.proofs.Math.Path.{refl, ap}
use Rattle.std.proofs.Common.{sym, subst}
use Rattle.std.proofs.Math.Bool.{false}
use Rattle.std.proofs.lemmas.Bool.{false≢true}
use mathlib.Core.List.{List, []}
use Rattle.listing.specs.Refusals.{outcome, is_accepted, Outcome}
use Rattle.listing.specs.RefusalLaws.{accepted-is}
use Rattle.pack.specs.Rows.{Pack}
use Rattle.pack.specs.Tables.{pack_of}
use Rattle.pack.specs.PackLaws.{rows-numbered}
use Rattle.rules.specs.Codes.{codes, tables, code_count, code_at, table_of}
use Rattle.rules.specs.CodeLaws.{codes-sound, codes-listed}
use Rattle.findings.specs.Findings.{Finding, findings, Ordered}
use Rattle.findings.specs.Schemes.{findings_of, tile_scheme}
use Rattle.findings.specs.Answers.{findings_by, reported}
use Rattle.findings.specs.Demands.{Stands, Once, Listed, Due, Asked}
use Rattle.findings.specs.SchemeLaws.{scheme_exactly, outcome-exactly, outcome-ordered, outcome-once}
use Rattle.findings.specs.FindingLaws.{tile-findings}

-- a code is one of the 36 exactly where it has a place among them
pub listed-exactly : (c : ℕ) → Listed c ↔ ((k : ℕ) × (k < code_count) × (code_at k ≡ c))
unfolding table_of code_at
listed-exactly = codes-listed codes tables codes-sound

pub place-listed : (k : ℕ) → k < code_count → Listed (code_at k)
place-listed k h = (listed-exactly (code_at k)).1 (k, h, refl)

-- all that a pack's rules ask for, and no other
pub findings-exactly : (p : Pack) (f : Finding) → Stands f (findings p) ↔ Due p f
findings-exactly p f = subst (λ (fs : List Finding). Stands f fs ↔ Due p f) (tile-findings p) (scheme_exactly (tile_scheme p) codes-sound f)

-- ---- the report of an octet string
module _ (s : List ℕ) where
  -- an accepted listing is judged, and of a refused one nothing is reported
  pub reported-judged : is_accepted (outcome s) ≡ true → reported s ≡ findings (pack_of s)
  unfolding reported
  reported-judged a = rw (accepted-is s a)

  pub reported-none : is_accepted (outcome s) ≡ false → reported s ≡ []
  unfolding reported
  reported-none = by (outcome s)
    where
      by : (o : Outcome) → is_accepted o ≡ false → findings_by o (findings (pack_of s)) ≡ []
      by (Ok l) e = absurd (false≢true (sym e))
      by (Err e₀) e = refl

  -- it is the report by a scheme
  pub tile-reported : findings_by (outcome s) (findings_of (tile_scheme (pack_of s))) ≡ reported s
  unfolding reported
  tile-reported = ap (findings_by (outcome s)) (tile-findings (pack_of s))

  -- "all findings .. and no other": a finding stands in the report exactly where the listing is accepted and the rule of its code asks for it
  pub reported-exactly : (f : Finding) → Stands f (reported s) ↔ Asked s f
  reported-exactly f = subst (λ (fs : List Finding). Stands f fs ↔ Asked s f) tile-reported (outcome-exactly (outcome s) (tile_scheme (pack_of s)) codes-sound f)

  -- "by rule then row"
  pub reported-ordered : Ordered (reported s)
  reported-ordered = subst Ordered tile-reported (outcome-ordered (outcome s) (tile_scheme (pack_of s)) codes-sound (rows-numbered s))

  -- "each once"
  pub reported-once : Once (reported s)
  reported-once = subst Once tile-reported (outcome-once (outcome s) (tile_scheme (pack_of s)) codes-sound (rows-numbered s))
