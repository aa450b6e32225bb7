-- What a caller of the calls on a listing has from their promises: one answer, which its words read as, and a refusal that writes nothing.
use Rattle.std.specs.Prelude.{ℕ, ◌+◌, ◌*◌, ◌<◌, ◌≤◌, List, ◌∷◌, ◌++◌, ◌≡◌, refl, true, ℤ, length, get_or, Some, None, Ok, Err}
use Rattle.std.proofs.Common.{sym, ◌∙◌, subst, arith, lt-ltb}
use Rattle.octets.specs.Octets.{le32}
use Rattle.listing.specs.Refusals.{outcome, number_of, Outcome}
use Rattle.findings.specs.Findings.{Finding}
use Rattle.findings.specs.Answers.{reported, verdict_of, is_refused, lookup_of, Verdict, Located}
use Rattle.findings.specs.Words.{words_of, written_of, report_words, ruling_words, located_words}
use Rattle.findings.specs.ReportedLaws.{reported-none}
use Rattle.findings.specs.RefusedLaws.{accepted-number}
use Rattle.findings.proofs.WordLaws.{verdict_fits}
use Rattle.findings.specs.WordLaws.{findings-fit, report_fits, lookup_fits}
use Rattle.findings.specs.declared.Ruling.TheVariants.{Pass, Fail, NotTestable}
use Rattle.desterlin.specs.AnswerLaws.{Readable, answer-read, answer-reads, answer-number, answer-total, answer-written, answer-finding, answer-past, answer_refused_kept}
use Rattle.desterlin.specs.Calls.{ReportAnswer, ReportCall, VerdictCall, LookupAnswer, LookupCall}

-- ---- two answers that keep one promise are the same
pub report_one : {o : Outcome} {fs : List Finding} {b w a : List ℕ} {r₁ r₂ : ℕ} {b₁ b₂ w₁ w₂ a₁ a₂ : List ℕ}
    → ReportAnswer o fs b w a r₁ b₁ w₁ a₁ → ReportAnswer o fs b w a r₂ b₂ w₂ a₂ → (r₁ ≡ r₂) × (b₁ ≡ b₂) × (a₁ ≡ a₂)
report_one p q = (p.status ∙ sym q.status, p.findings ∙ sym q.findings, p.answer ∙ sym q.answer)

pub verdict_one : {s : List ℕ} {code : ℕ} {w a : List ℕ} {r₁ r₂ : ℕ} {w₁ w₂ a₁ a₂ : List ℕ}
    → VerdictCall s code w a r₁ w₁ a₁ → VerdictCall s code w a r₂ w₂ a₂ → (r₁ ≡ r₂) × (a₁ ≡ a₂)
verdict_one p q = (p.status ∙ sym q.status, p.answer ∙ sym q.answer)

pub lookup_one : {v : Located} {a : List ℕ} {r₁ r₂ : ℕ} {a₁ a₂ : List ℕ}
    → LookupAnswer v a r₁ a₁ → LookupAnswer v a r₂ a₂ → (r₁ ≡ r₂) × (a₁ ≡ a₂)
lookup_one p q = (p.status ∙ sym q.status, p.answer ∙ sym q.answer)

-- the answer and the findings do not depend on the workspace, neither its size nor what it holds
pub report_any_work : {o : Outcome} {fs : List Finding} {b w v a : List ℕ} {r₁ r₂ : ℕ} {b₁ b₂ w₁ v₂ a₁ a₂ : List ℕ}
    → ReportAnswer o fs b w a r₁ b₁ w₁ a₁ → ReportAnswer o fs b v a r₂ b₂ v₂ a₂ → (r₁ ≡ r₂) × (b₁ ≡ b₂) × (a₁ ≡ a₂)
report_any_work p q = (p.status ∙ sym q.status, p.findings ∙ sym q.findings, p.answer ∙ sym q.answer)

pub verdict_any_work : {s : List ℕ} {code : ℕ} {w v a : List ℕ} {r₁ r₂ : ℕ} {w₁ v₂ a₁ a₂ : List ℕ}
    → VerdictCall s code w a r₁ w₁ a₁ → VerdictCall s code v a r₂ v₂ a₂ → (r₁ ≡ r₂) × (a₁ ≡ a₂)
verdict_any_work p q = (p.status ∙ sym q.status, p.answer ∙ sym q.answer)

-- ---- "where the answer buffer is too short, nothing is written and 0 is returned"
pub report_short_kept : {o : Outcome} {fs : List Finding} {b w a : List ℕ} {r : ℕ} {b' w' a' : List ℕ} → ReportAnswer o fs b w a r b' w' a' → length a < 20 → (r ≡ 0) × (b' ≡ b) × (w' ≡ w) × (a' ≡ a)
report_short_kept {a = a} p h =
    let t = lt-ltb (length a) 20 h in
    (p.status ∙ rw t, p.findings ∙ rw t, p.short t, p.answer ∙ rw t)

pub verdict_short_kept : {s : List ℕ} {code : ℕ} {w a : List ℕ} {r : ℕ} {w' a' : List ℕ} → VerdictCall s code w a r w' a' → length a < 20 → (r ≡ 0) × (w' ≡ w) × (a' ≡ a)
verdict_short_kept {a = a} p h =
    let t = lt-ltb (length a) 20 h in
    (p.status ∙ rw t, p.short t, p.answer ∙ rw t)

pub lookup_short_kept : {v : Located} {a : List ℕ} {r : ℕ} {a' : List ℕ} → LookupAnswer v a r a' → length a < 16 → (r ≡ 0) × (a' ≡ a)
lookup_short_kept {a = a} p h =
    let t = lt-ltb (length a) 16 h in
    (p.status ∙ rw t, p.answer ∙ rw t)

-- ---- what the report on a listing reads as: AnswerLaws, of its own findings
pub reported_readable : (s : List ℕ) → Readable (outcome s) (reported s)
unfolding report_words
reported_readable s = record { words = report_fits s; findings = findings-fit s; accepted = (accepted-number s).1; refused = reported-none s }

module _ (s : List ℕ) {b w a : List ℕ} {r : ℕ} {b' w' a' : List ℕ} (p : ReportCall s b w a r b' w' a') (whole : 20 ≤ length a) where
  pub report_reads : (k : ℕ) → k < 5 → le32 a' (4 * k) ≡ get_or (report_words s b) k 0
  unfolding report_words
  report_reads = answer-reads (reported_readable s) p whole

  pub report_number : le32 a' 0 ≡ number_of (outcome s)
  report_number = answer-number (reported_readable s) p whole

  pub report_total : le32 a' 12 ≡ length (reported s)
  report_total = answer-total (reported_readable s) p whole

  pub report_written : le32 a' 16 ≡ written_of (reported s) b
  report_written = answer-written (reported_readable s) p whole

  pub report_finding : (before : List Finding) (f : Finding) (after : List Finding) (k : ℕ) → reported s ≡ before ++ f ∷ after → length before < le32 a' 16 → k < 3
      → le32 b' (12 * length before + 4 * k) ≡ get_or (words_of f) k 0
  report_finding = answer-finding (reported_readable s) p whole

  pub report_past : (j : ℕ) → 12 * le32 a' 16 ≤ j → get_or b' j 0 ≡ get_or b j 0
  report_past = answer-past (reported_readable s) p whole

  pub report_refused_kept : (le32 a' 0 ≡ 0 → ⊥) → (b' ≡ b) × (w' ≡ w) × (le32 a' 12 ≡ 0) × (le32 a' 16 ≡ 0)
  report_refused_kept = answer_refused_kept (reported_readable s) p whole

module _ {s : List ℕ} {code : ℕ} {w a : List ℕ} {r : ℕ} {w' a' : List ℕ} (p : VerdictCall s code w a r w' a') (whole : 20 ≤ length a) where
  pub verdict_reads : (k : ℕ) → k < 5 → le32 a' (4 * k) ≡ get_or (ruling_words (verdict_of s code)) k 0
  verdict_reads k l = answer-read 20 (ruling_words (verdict_of s code)) a a' k whole (verdict_fits s code) (subst (λ (n : ℕ). k < n) (sym (five (verdict_of s code))) l) p.answer
    where
      five : (v : Verdict) → length (ruling_words v) ≡ 5
      five (Ok Pass) = refl
      five (Ok (Fail i)) = refl
      five (Ok NotTestable) = refl
      five (Err e) = refl

  -- a refused verdict leaves the workspace as it was
  pub verdict_refused_kept : le32 a' 0 ≡ 3 → w' ≡ w
  verdict_refused_kept e = p.refused (by (verdict_of s code) (sym (verdict_reads 0 (omega arith)) ∙ e))
    where
      by : (v : Verdict) → get_or (ruling_words v) 0 0 ≡ 3 → is_refused v ≡ true
      by (Ok Pass) q = absurd (omega arith)
      by (Ok (Fail i)) q = absurd (omega arith)
      by (Ok NotTestable) q = absurd (omega arith)
      by (Err w) q = refl

pub lookup_reads : (s : List ℕ) (k : ℕ) (z c i : ℤ) {a : List ℕ} {r : ℕ} {a' : List ℕ} → LookupCall s k z c i a r a' → 16 ≤ length a
    → (j : ℕ) → j < 4 → le32 a' (4 * j) ≡ get_or (located_words (lookup_of s k z c i)) j 0
lookup_reads s k z c i {a} {r} {a'} p whole j l =
    answer-read 16 (located_words (lookup_of s k z c i)) a a' j whole (lookup_fits s k z c i) (subst (λ (n : ℕ). j < n) (sym (four (lookup_of s k z c i))) l) p.answer
  where
    four : (v : Located) → length (located_words v) ≡ 4
    four (Ok (Some j)) = refl
    four (Ok None) = refl
    four (Err e) = refl
