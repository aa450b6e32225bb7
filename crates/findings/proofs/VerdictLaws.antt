-- Verdicts agree with the list of findings.
use Rattle.std.specs.Prelude.{ℕ, ◌≡◌, refl, Bool, true, false, cond, eqb}
use Rattle.std.proofs.Common.{sym, ◌∙◌}
use Rattle.std.proofs.Math.Path.{ap}
use Rattle.std.proofs.lemmas.Bool.{false≢true}
use mathlib.Core.List.{List, [], ◌∷◌}
use Rattle.pack.specs.Rows.{Pack, rows_in}
use Rattle.rules.specs.Codes.{code_at, table_at, table_of}
use Rattle.rules.specs.CodeLaws.{codes-sound}
use Rattle.findings.specs.Findings.{Finding, at_row, at_none, of_code, of_place, findings, only}
use Rattle.findings.specs.Schemes.{code_in, table_in, table_by, at_row_by, at_none_by, of_code_by, of_place_by, findings_of, tile_scheme}
use Rattle.findings.specs.SchemeLaws.{scheme_only_code}
use Rattle.findings.specs.Answers.{fail_or, always_testable, without_finding, ruled}
use Rattle.findings.specs.declared.Ruling.{Ruling}
use Rattle.findings.specs.declared.Ruling.TheVariants.{Pass, Fail, NotTestable}

-- the findings of a listed code are those of the full list that have the code
pub only_code : (p : Pack) (c : ℕ) → (table_of c ≡ 0 → ⊥) → only c (findings p) ≡ of_code p c (table_of c)
unfolding findings_of of_place_by of_code_by at_row_by at_none_by code_in table_in table_by findings of_place of_code at_row at_none code_at table_at table_of
only_code p = scheme_only_code (tile_scheme p) codes-sound

-- ---- "a verdict is fail, with the lowest row, where the code has a finding": it is read off the full list
pub verdict_of-list : (p : Pack) (c : ℕ) → (table_of c ≡ 0 → ⊥) → ruled p c ≡ fail_or (only c (findings p)) (without_finding c (rows_in p (table_of c)))
unfolding ruled
verdict_of-list p c n = ap (λ (fs : List Finding). fail_or fs (without_finding c (rows_in p (table_of c)))) (sym (only_code p c n))

abbrev is_fail : Ruling → Bool
is_fail Pass = false
is_fail (Fail i) = true
is_fail NotTestable = false

no_fail : (c : ℕ) (b : Bool) (d : Bool) → is_fail (cond b (cond d Pass NotTestable) Pass) ≡ false
no_fail c true true = refl
no_fail c true false = refl
no_fail c false d = refl

-- so it is fail exactly where there is one, and the row is the first one's
module _ (p : Pack) (c : ℕ) (listed : table_of c ≡ 0 → ⊥) where
  pub record First (i : ℕ) : Type 0 where
    pub finding : Finding
    pub rest : List Finding
    pub list : only c (findings p) ≡ finding ∷ rest
    pub row : finding.row ≡ i

  by : (fs : List Finding) (i : ℕ) → only c (findings p) ≡ fs → fail_or fs (without_finding c (rows_in p (table_of c))) ≡ Fail i → First i
  unfolding without_finding
  by [] i e q = absurd (false≢true (sym (no_fail c (eqb (rows_in p (table_of c)) 0) (always_testable c)) ∙ ap is_fail q))
  by (f ∷ fs) i e q = record { finding = f; rest = fs; list = e; row = cc }

  pub fail_found : (i : ℕ) → ruled p c ≡ Fail i → First i
  fail_found i e = by (only c (findings p)) i refl (sym (verdict_of-list p c listed) ∙ e)

  pub found_fail : (i : ℕ) → First i → ruled p c ≡ Fail i
  found_fail i h =
      verdict_of-list p c listed ∙ ap (λ (fs : List Finding). fail_or fs (without_finding c (rows_in p (table_of c)))) h.list ∙ ap Fail h.row
