-- What report, verdict and lookup answer of a listing.
use Rattle.std.specs.Prelude.{ℕ, List, [], ◌∷◌, Bool, true, false, cond, ◌&&◌, ◌||◌, eqb, ltb, ℤ, Option, None, Some, Result, Ok, Err}
use Rattle.spelling.specs.Words.{tiles}
use Rattle.listing.specs.Refusals.{outcome, Outcome, refusal}
use Rattle.listing.specs.declared.Refusal.{Refusal}
use Rattle.listing.specs.declared.Why.TheVariants as why
use Rattle.pack.specs.Rows.{Rows, Content, Tile, Pack, rows_in}
use Rattle.pack.specs.Tables.{pack_of}
use Rattle.rules.specs.Judgments.{first_row}
use Rattle.rules.specs.Codes.{table_of}
use Rattle.rules.specs.Contents.{of_type}
use Rattle.rules.specs.Tiles.{at_address}
use Rattle.findings.specs.Findings.{Finding, of_code, findings}
use Rattle.findings.specs.declared.Ruling.{Ruling}
use Rattle.findings.specs.declared.Ruling.TheVariants as ruling

-- ---- the report: the findings of an accepted listing, and none of a refused one
abbrev pub findings_by : Outcome → List Finding → List Finding
findings_by (Ok l) fs = fs
findings_by (Err e) fs = []

unfoldable pub reported : List ℕ → List Finding
reported s = findings_by (outcome s) (findings (pack_of s))

-- ---- the verdict: "fail, with the lowest row (none if there is no other), where the code has a finding"
abbrev pub fail_or : List Finding → Ruling → Ruling
fail_or [] clean = clean
fail_or (f ∷ fs) clean = ruling.Fail f.row

-- "not testable where the code's table is empty and the code is not 111, 112, 113 or 171; pass otherwise"
abbrev pub always_testable : ℕ → Bool
always_testable c = eqb c 111 || eqb c 112 || eqb c 113 || eqb c 171

unfoldable pub without_finding : ℕ → ℕ → Ruling
without_finding c n = cond (eqb n 0) (cond (always_testable c) ruling.Pass ruling.NotTestable) ruling.Pass

unfoldable pub ruled : Pack → ℕ → Ruling
ruled p c = fail_or (of_code p c (table_of c)) (without_finding c (rows_in p (table_of c)))

-- a ruling, or why there is none
abbrev pub Verdict : Type 0
Verdict = Result Ruling Refusal

abbrev pub ruled_by : Outcome → Ruling → Verdict
ruled_by (Ok l) v = Ok v
ruled_by (Err e) v = Err e

-- 9: "a verdict asked for a code not listed; checked before 1"
unfoldable pub verdict_of : List ℕ → ℕ → Verdict
verdict_of s c = cond (eqb (table_of c) 0) (Err (refusal why.Code 0 0)) (ruled_by (outcome s) (ruled (pack_of s) c))

-- whether it is one of pass, fail and not testable, or a refusal
abbrev pub is_refused : {A : Type 0} → Result A Refusal → Bool
is_refused (Ok v) = false
is_refused (Err e) = true

-- ---- the lookup: "the lowest tile row with that name and address, or none"
abbrev pub Located : Type 0
Located = Result (Option ℕ) Refusal

unfoldable pub located_row : ℕ → ℕ → Located
located_row k n = Ok (cond (ltb k n) (Some k) None)

unfoldable pub tile_at : Rows Tile → List ℕ → ℤ → ℤ → ℤ → Located
tile_at ts x z c r = located_row (first_row (at_address x z c r) ts) ts.count

-- 10: "lookup on a contents row that isn't there or whose data_type is not tiles; checked after 8"
unfoldable pub can_look : Rows Content → ℕ → Bool
can_look cs k = ltb k cs.count && of_type tiles (cs.row k)

unfoldable pub looked_up : Pack → ℕ → ℤ → ℤ → ℤ → Located
looked_up p k z c r = cond (can_look p.contents k) (tile_at p.tiles (p.contents.row k).name z c r) (Err (refusal why.NoTiles 0 0))

abbrev pub located_by : Outcome → Located → Located
located_by (Ok l) a = a
located_by (Err e) a = Err e

unfoldable pub lookup_of : List ℕ → ℕ → ℤ → ℤ → ℤ → Located
lookup_of s k z c r = located_by (outcome s) (looked_up (pack_of s) k z c r)
