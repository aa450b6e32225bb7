-- The promises of the calls, from what their parts have done.
use Prim.Native.Nat.{ℕ, ◌+◌, ◌<◌, ◌≤◌}
use mathlib.Core.Path.{◌≡◌, refl, sym, ap, ◌∙◌, subst}
use mathlib.Core.Bool.{true≢false}
use mathlib.Core.List.{List, [], ◌∷◌, ◌++◌}
use native.Mathlib.Omega.{arith}
use lib.ListN.{length, drop}
use lib.Seq.{sets, sets-eq}
use borrow.Author.Tests.{lt-ltb, le-ltb}
use Rattle.findings.specs.Findings.{Finding}
use Rattle.findings.specs.Words.{octets_of, ruling_words, located_words}
use Rattle.findings.specs.declared.Ruling.TheVariants as ruling
use Rattle.std.specs.Prelude.{Some, None, Result, Ok, Err}
use Rattle.findings.specs.Answers.{Verdict, Located}
use Rattle.listing.specs.Refusals.{Outcome, Checked, number, number_of, table_of, row_of}
use Rattle.listing.specs.declared.Refusal.{Refusal}
use Rattle.listing.specs.Listing.{numbered}
use Rattle.columns.specs.Tiles.{FillOf}
use Rattle.writer.specs.Writing.{Written, WriteOf}
use Rattle.report.specs.Promises.{Report, refusal_in, ReportBy, VerdictOf}
use Rattle.desterlin.specs.Calls.{summary_words, ReportAnswer, VerdictCall, LookupAnswer, written_words, WriteCall, checked_words, FillCall}

-- an answer's words at the front of its buffer
front : (ws : List ℕ) (n : ℕ) (a : List ℕ) → length (octets_of ws) ≡ n → n ≤ length a → sets a 0 (octets_of ws) ≡ octets_of ws ++ drop n a
front ws n a e h =
    let z : 0 + length (octets_of ws) ≡ n = omega arith in
    subst (λ (m : ℕ). sets a 0 (octets_of ws) ≡ octets_of ws ++ drop m a) z (sets-eq (octets_of ws) a 0 (omega arith))

-- the words of a refusal, by its number
module _ {A : Type 0} (e : Refusal) (n : ℕ) (r : Result A Refusal) (f : r ≡ Err e) (q : n ≡ number e.why) where
  pub refused_words : (ws : Result A Refusal → List ℕ) (vs : List ℕ) (b b' : List ℕ) → ws (Err e) ≡ number e.why ∷ e.table ∷ e.row ∷ vs → b' ≡ sets b 0 (octets_of (n ∷ e.table ∷ e.row ∷ vs)) → b' ≡ sets b 0 (octets_of (ws r))
  refused_words ws vs b b' k h = rw f (rw k (rw q at h))

-- ---- report
-- one refusal, or none, has one number and place
placed : {A B : Type 0} (r : Result A Refusal) (o : Result B Refusal) → refusal_in r ≡ refusal_in o → (number_of r ≡ number_of o) × ((table_of r ≡ table_of o) × (row_of r ≡ row_of o))
placed (Ok x) (Ok y) e = (refl, (refl, refl))
placed (Ok x) (Err f) e = (cc, (cc, cc))
placed (Err f) (Ok x) e = (cc, (cc, cc))
placed (Err f) (Err g) e = let q : f ≡ g = cc in (ap (λ (x : Refusal). number x.why) q, (ap (λ (x : Refusal). x.table) q, ap (λ (x : Refusal). x.row) q))

module _ (o : Outcome) (fs : List Finding) (b w a : List ℕ) where
  pub report_short : length a < 20 → ReportAnswer o fs b w a 0 b w a
  report_short h =
      let t = lt-ltb (length a) 20 h in
      record { status = rw t; findings = rw t; answer = rw t; short = λ _. refl; refused = λ _. refl }

  pub report_answered : (r : Report) (b' w' a' : List ℕ) → 20 ≤ length a → ReportBy o fs b w r b' w' → a' ≡ sets a 0 (octets_of (summary_words r)) → ReportAnswer o fs b w a 1 b' w' a'
  report_answered r b' w' a' h p x =
      let t = le-ltb (length a) 20 h in
      let q = placed r o p.refusal in
      record {
        status = rw t;
        findings = rw t p.buffer;
        answer = rw (t, ← q.0, ← q.1.0, ← q.1.1, ← p.written, ← p.total) (x ∙ front (summary_words r) 20 a refl h);
        short = λ e. absurd (true≢false (sym e ∙ t));
        refused = p.kept;
      }

-- ---- verdict
five-ruling : (v : Verdict) → length (octets_of (ruling_words v)) ≡ 20
five-ruling (Ok ruling.Pass) = refl
five-ruling (Ok (ruling.Fail i)) = refl
five-ruling (Ok ruling.NotTestable) = refl
five-ruling (Err e) = refl

module _ (s : List ℕ) (code : ℕ) (w a : List ℕ) where
  pub verdict_short : length a < 20 → VerdictCall s code w a 0 w a
  verdict_short h =
      let t = lt-ltb (length a) 20 h in
      record { status = rw t; answer = rw t; short = λ _. refl; refused = λ _. refl }

  pub verdict_answered : (v : Verdict) (w' a' : List ℕ) → 20 ≤ length a → VerdictOf s code w v w' → a' ≡ sets a 0 (octets_of (ruling_words v)) → VerdictCall s code w a 1 w' a'
  verdict_answered v w' a' h p x =
      let t = le-ltb (length a) 20 h in
      record { status = rw t; answer = rw (t, ← p.ruling) (x ∙ front (ruling_words v) 20 a (five-ruling v) h); short = λ e. absurd (true≢false (sym e ∙ t)); refused = p.kept }

-- ---- lookup
four_located : (v : Located) → length (octets_of (located_words v)) ≡ 16
four_located (Ok (Some i)) = refl
four_located (Ok None) = refl
four_located (Err e) = refl

module _ (u : Located) (a : List ℕ) where
  pub lookup_short : length a < 16 → LookupAnswer u a 0 a
  lookup_short h =
      let t = lt-ltb (length a) 16 h in
      record { status = rw t; answer = rw t }

  pub lookup_answered : (v : Located) (a' : List ℕ) → 16 ≤ length a → v ≡ u → a' ≡ sets a 0 (octets_of (located_words v)) → LookupAnswer u a 1 a'
  lookup_answered v a' h p x =
      let t = le-ltb (length a) 16 h in
      record { status = rw t; answer = rw (t, ← p) (x ∙ front (located_words v) 16 a (four_located v) h) }

-- ---- write
module _ (ts : List (List ℕ)) (b a : List ℕ) where
  pub write_short : length a < 16 → WriteCall ts b a 0 b a
  write_short h =
      let t = lt-ltb (length a) 16 h in
      record { status = rw t; buffer = rw t; answer = rw t }

  pub write_answered : (v : Written) (b' a' : List ℕ) → 16 ≤ length a → WriteOf (numbered ts) b v b' → a' ≡ sets a 0 (octets_of (written_words v)) → WriteCall ts b a 1 b' a'
  write_answered v b' a' h p x =
      let t = le-ltb (length a) 16 h in
      record { status = rw t; buffer = rw t p.buffer; answer = rw (t, ← p.answer) (x ∙ front (written_words v) 16 a refl h) }

-- ---- fill
module _ (s : List ℕ) (bs : List (List ℕ)) (a : List ℕ) where
  pub fill_short : length a < 12 → FillCall s bs a 0 bs a
  fill_short h =
      let t = lt-ltb (length a) 12 h in
      record { status = rw t; answer = rw t; firsts = rw t; zooms = rw t; columns = rw t; rows = rw t }

  pub fill_answered : (v : Checked) (cs : List (List ℕ)) (a' : List ℕ) → 12 ≤ length a → FillOf s bs v cs → a' ≡ sets a 0 (octets_of (checked_words v)) → FillCall s bs a 1 cs a'
  fill_answered v cs a' h p x =
      let t = le-ltb (length a) 12 h in
      record { status = rw t; answer = rw (t, ← p.answer) (x ∙ front (checked_words v) 12 a refl h); firsts = rw t p.firsts; zooms = rw t p.zooms; columns = rw t p.columns; rows = rw t p.rows }
