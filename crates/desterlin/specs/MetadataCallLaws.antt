-- What a caller of the report on metadata has from its promise: AnswerLaws, of its own findings. Too short an answer, and that two answers are one, are in CallLaws.
use Rattle.std.specs.Prelude.{ℕ, ◌+◌, ◌*◌, ◌<◌, ◌≤◌, List, ◌∷◌, ◌++◌, ◌≡◌, refl, true, length, get_or, Ok, Err}
use Rattle.std.proofs.lemmas.Bool.{false≢true}
use Rattle.octets.specs.Octets.{le32}
use Rattle.listing.specs.Refusals.{number_of, is_accepted, Outcome}
use Rattle.metadata.specs.Refusals.{metadata_outcome}
use Rattle.findings.specs.Findings.{Finding}
use Rattle.findings.specs.Words.{words_of, written_of, report_words_by}
use Rattle.findings.specs.MetadataAnswers.{metadata_reported}
use Rattle.findings.specs.MetadataLaws.{metadata_none, metadata_findings_fit, metadata_fits}
use Rattle.desterlin.specs.Calls.{MetadataReportCall}
use Rattle.desterlin.specs.AnswerLaws.{Readable, answer-reads, answer-number, answer-total, answer-written, answer-finding, answer-past, answer_refused_kept}

none-numbered : (o : Outcome) → is_accepted o ≡ true → number_of o ≡ 0
none-numbered (Ok l) e = refl
none-numbered (Err w) e = absurd (false≢true e)

pub metadata_readable : (s m : List ℕ) → Readable (metadata_outcome s m) (metadata_reported s m)
metadata_readable s m = record { words = metadata_fits s m; findings = metadata_findings_fit s m; accepted = none-numbered (metadata_outcome s m); refused = metadata_none s m }

module _ (s m : List ℕ) {b w a : List ℕ} {r : ℕ} {b' w' a' : List ℕ} (p : MetadataReportCall s m b w a r b' w' a') (whole : 20 ≤ length a) where
  pub metadata_reads : (k : ℕ) → k < 5 → le32 a' (4 * k) ≡ get_or (report_words_by (metadata_outcome s m) (metadata_reported s m) b) k 0
  metadata_reads = answer-reads (metadata_readable s m) p whole

  pub metadata_number : le32 a' 0 ≡ number_of (metadata_outcome s m)
  metadata_number = answer-number (metadata_readable s m) p whole

  -- the total is full, whatever the buffer
  pub metadata_total : le32 a' 12 ≡ length (metadata_reported s m)
  metadata_total = answer-total (metadata_readable s m) p whole

  -- the buffer begins with the first of them
  pub metadata_written : le32 a' 16 ≡ written_of (metadata_reported s m) b
  metadata_written = answer-written (metadata_readable s m) p whole

  pub metadata_finding : (before : List Finding) (f : Finding) (after : List Finding) (k : ℕ) → metadata_reported s m ≡ before ++ f ∷ after → length before < le32 a' 16 → k < 3
      → le32 b' (12 * length before + 4 * k) ≡ get_or (words_of f) k 0
  metadata_finding = answer-finding (metadata_readable s m) p whole

  pub metadata_past : (j : ℕ) → 12 * le32 a' 16 ≤ j → get_or b' j 0 ≡ get_or b j 0
  metadata_past = answer-past (metadata_readable s m) p whole

  -- a refusal writes nothing
  pub metadata_refused_kept : (le32 a' 0 ≡ 0 → ⊥) → (b' ≡ b) × (w' ≡ w) × (le32 a' 12 ≡ 0) × (le32 a' 16 ≡ 0)
  metadata_refused_kept = answer_refused_kept (metadata_readable s m) p whole
