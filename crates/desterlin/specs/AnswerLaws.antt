-- What a caller reads in the answer and the findings of any report: o is what the check has said, and fs are the findings.
use Rattle.std.specs.Prelude.{ℕ, ◌+◌, ◌*◌, ◌<◌, ◌≤◌, ◌≡◌, Bool, get_or, drop}
use mathlib.Core.List.{List, [], ◌∷◌, ◌++◌}
use Rattle.std.proofs.Math.Path.{refl, ap}
use Rattle.std.proofs.Common.{sym, ◌∙◌, subst, inl, arith, le-ltb}
use Rattle.std.proofs.Math.Bool.{true, false}
use Rattle.std.proofs.Math.ListN.{length}
use Rattle.octets.specs.Octets.{le32}
use Rattle.listing.specs.Refusals.{number_of, is_accepted, Outcome}
use Rattle.findings.specs.Findings.{Finding, Every}
use Rattle.findings.specs.Words.{words_of, written_of, buffer_of, report_words_by, answered}
use Rattle.findings.specs.Demands.{Stands, AllFit}
use Rattle.findings.specs.StandsLaws.{stands_right, every_stands}
use Rattle.findings.specs.WordLaws.{buffer-none, buffer-past, words-read, finding-read}
use Rattle.desterlin.specs.Calls.{ReportAnswer}

-- ---- each word of an answer reads as its number
pub answer-read : (size : ℕ) (ws a a' : List ℕ) (k : ℕ) → size ≤ length a → AllFit ws → k < length ws → a' ≡ answered size ws a → le32 a' (4 * k) ≡ get_or ws k 0
answer-read size ws a a' k h f l e =
    ap (λ (x : List ℕ). le32 x (4 * k)) (e ∙ rw (le-ltb (length a) size h)) ∙ words-read ws (drop size a) k f l

-- a report whose numbers fit their words, and that is empty where it is refused
pub record Readable (o : Outcome) (fs : List Finding) : Type 0 where
  pub words : (b : List ℕ) → AllFit (report_words_by o fs b)
  pub findings : Every (λ f. AllFit (words_of f)) fs
  pub accepted : is_accepted o ≡ true → number_of o ≡ 0
  pub refused : is_accepted o ≡ false → fs ≡ []

module _ {o : Outcome} {fs : List Finding} (d : Readable o fs) {b w a : List ℕ} {r : ℕ} {b' w' a' : List ℕ} (p : ReportAnswer o fs b w a r b' w' a') (whole : 20 ≤ length a) where
  pub answer-reads : (k : ℕ) → k < 5 → le32 a' (4 * k) ≡ get_or (report_words_by o fs b) k 0
  answer-reads k l = answer-read 20 (report_words_by o fs b) a a' k whole (d.words b) l p.answer

  -- the number of the refusal, 0 where there is none
  pub answer-number : le32 a' 0 ≡ number_of o
  answer-number = answer-reads 0 (omega arith)

  -- "the total is full even where the buffer is short": it is how many findings there are, whatever the buffer
  pub answer-total : le32 a' 12 ≡ length fs
  answer-total = answer-reads 3 (omega arith)

  pub answer-written : le32 a' 16 ≡ written_of fs b
  answer-written = answer-reads 4 (omega arith)

  wrote : b' ≡ buffer_of fs b
  wrote = p.findings ∙ rw (le-ltb (length a) 20 whole)

  -- code, row and partner of each finding that is written
  pub answer-finding : (before : List Finding) (f : Finding) (after : List Finding) (k : ℕ) → fs ≡ before ++ f ∷ after → length before < le32 a' 16 → k < 3
      → le32 b' (12 * length before + 4 * k) ≡ get_or (words_of f) k 0
  answer-finding before f after k e l h =
      ap (λ (x : List ℕ). le32 x (12 * length before + 4 * k)) (wrote ∙ ap (λ (gs : List Finding). buffer_of gs b) e) ∙ finding-read b before f after k fits written h
    where
      fits : AllFit (words_of f)
      fits = (every_stands (λ g. AllFit (words_of g)) fs).0 d.findings f (subst (Stands f) (sym e) (stands_right f before (f ∷ after) (inl refl)))

      written : length before < written_of (before ++ f ∷ after) b
      written = subst (λ (n : ℕ). length before < n) (answer-written ∙ ap (λ (gs : List Finding). written_of gs b) e) l

  -- "words past those keep their values", and so do the octets past the last whole word
  pub answer-past : (j : ℕ) → 12 * le32 a' 16 ≤ j → get_or b' j 0 ≡ get_or b j 0
  answer-past j l = ap (λ (x : List ℕ). get_or x j 0) wrote ∙ buffer-past fs b j (subst (λ (n : ℕ). 12 * n ≤ j) answer-written l)

  -- "a refusal writes nothing": findings and workspace keep their octets, total and written are 0
  pub answer_refused_kept : (le32 a' 0 ≡ 0 → ⊥) → (b' ≡ b) × (w' ≡ w) × (le32 a' 12 ≡ 0) × (le32 a' 16 ≡ 0)
  unfolding written_of
  answer_refused_kept n =
      let x = turned (is_accepted o) refl in
      let none = d.refused x in
      (wrote ∙ ap (λ (gs : List Finding). buffer_of gs b) none ∙ buffer-none b, p.refused x, answer-total ∙ ap length none, answer-written ∙ ap (λ (gs : List Finding). written_of gs b) none ∙ omega arith)
    where
      turned : (c : Bool) → is_accepted o ≡ c → is_accepted o ≡ false
      turned true e = absurd (n (answer-number ∙ d.accepted e))
      turned false e = e
