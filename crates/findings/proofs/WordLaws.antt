-- The numbers of a verdict fit their words.
use Rattle.std.specs.Prelude.{ℕ, ◌≡◌, List, [], ◌∷◌, Ok}
use Rattle.std.proofs.Math.Path.{refl, ap}
use Rattle.std.proofs.Common.{◌∙◌, subst}
use Rattle.std.proofs.Math.Bool.{true}
use native.Mathlib.Omega.{arith}
use Rattle.listing.specs.Refusals.{outcome, is_accepted}
use Rattle.pack.specs.Tables.{pack_of}
use Rattle.pack.specs.PackLaws.{rows-numbered}
use Rattle.rules.specs.Judgments.{none}
use Rattle.rules.specs.CodeLaws.{codes-sound}
use Rattle.findings.specs.Schemes.{tile_scheme}
use Rattle.findings.specs.Answers.{ruled, verdict_of}
use Rattle.findings.specs.Words.{ruling_words}
use Rattle.findings.specs.Demands.{Listed, Fits, AllFit}
use Rattle.findings.specs.SchemeLaws.{due_fits}
use Rattle.findings.specs.RefusedLaws.{written-fit}
use Rattle.findings.specs.WordLaws.{partner-fits, turned-fits}
use Rattle.findings.specs.declared.Ruling.{Ruling}
use Rattle.findings.specs.declared.Ruling.TheVariants as ruling
use Rattle.findings.proofs.RulingLaws.{kind, ruled-kind, verdict_judged, verdict_cases, verdict_fail_rule}

module _ (s : List ℕ) where
  pub verdict_fits : (c : ℕ) → AllFit (ruling_words (verdict_of s c))
  verdict_fits c =
      verdict_cases s c (λ v. AllFit (ruling_words v))
      (λ z. written-fit (3 ∷ none ∷ 9 ∷ 0 ∷ 0 ∷ []) refl)
      (λ w l o. (omega arith, (omega arith, turned-fits s w o)))
      (λ l a. by (ruled (pack_of s) c) l a refl)
    where
      by : (v : Ruling) → Listed c → is_accepted (outcome s) ≡ true → ruled (pack_of s) c ≡ v → AllFit (ruling_words (Ok v))
      by ruling.Pass l a e = written-fit (0 ∷ none ∷ 0 ∷ 0 ∷ 0 ∷ []) refl
      by (ruling.Fail i) l a e =
          let h = (verdict_fail_rule s c i).0 (verdict_judged s c l a ∙ ap Ok e) in
          (omega arith, (subst Fits h.row (due_fits (tile_scheme (pack_of s)) codes-sound (rows-numbered s a) (partner-fits s a) h.finding h.holds.1).1.0, written-fit (0 ∷ 0 ∷ 0 ∷ []) refl))
      by ruling.NotTestable l a e = written-fit (2 ∷ none ∷ 0 ∷ 0 ∷ 0 ∷ []) refl
