-- The report's promise from what its parts have done, and that it leaves nothing open.
use Rattle.std.specs.Prelude.{ℕ, ◌/◌, ◌≤◌, min, ◌<◌, ◌≡◌, refl, true, false, List, [], ◌∷◌, length, Ok, Err}
use Rattle.std.proofs.Common.{sym, ◌∙◌, true≢false, zero-add, arith}
use Rattle.std.proofs.lemmas.Bool.{false≢true}
use Rattle.std.proofs.Math.Path.{ap, subst}
use Rattle.listing.specs.Refusals.{Outcome, outcome, is_accepted, refusal}
use Rattle.listing.specs.declared.Layout.{Layout}
use Rattle.listing.specs.declared.Refusal.{Refusal}
use Rattle.listing.specs.declared.Why.TheVariants as why
use Rattle.pack.specs.Rows.{Pack, rows_in}
use Rattle.pack.specs.Tables.{pack_in, pack_of}
use Rattle.pack.specs.PackLaws.{rows-numbered}
use Rattle.pack.specs.declared.Form.TheVariants as form
use Rattle.columns.specs.Refusals.{column_outcome}
use Rattle.columns.specs.Tiles.{column_tables, column_pack}
use Rattle.columns.specs.CountLaws.{columns-numbered}
use Rattle.metadata.specs.Tables.{tables_for, notebook_in, notebook_of}
use Rattle.metadata.specs.Refusals.{metadata_outcome}
use Rattle.metadata.specs.MetadataLaws.{rows-most}
use Rattle.rules.specs.Codes.{table_of as tableOfCode}
use Rattle.rules.specs.Judgments.{none}
use Rattle.findings.specs.Findings.{Finding, of_code, findings}
use Rattle.findings.specs.Answers.{findings_by, reported, fail_or, without_finding, ruled, Verdict, verdict_of, is_refused}
use Rattle.findings.specs.ColumnAnswers.{column_reported}
use Rattle.findings.specs.Schemes.{Scheme, findings_of}
use Rattle.findings.specs.MetadataAnswers.{metadata_scheme, metadata_reported}
use Rattle.findings.proofs.RulingLaws.{verdict_unlisted as unlisted, verdict_turned, verdict_judged}
use Rattle.findings.specs.WordLaws.{buffer-none}
use Rattle.findings.specs.OrderLaws.{Numbered}
use Rattle.findings.specs.Words.{room, written_of}
use Rattle.findings.specs.declared.Ruling.{Ruling}
use Rattle.findings.specs.declared.Ruling.TheVariants.{Fail}
use Rattle.report.specs.Buffers.{head_row, Added, no_tally}
use Rattle.report.specs.BufferLaws.{put_all}
use Rattle.report.specs.WalkLaws.{Few}
use Rattle.report.specs.Promises.{Report, refusal_in, total_in, written_in, Reports, ReportBy, ReportOf, ColumnReportOf, MetadataReportOf, VerdictOf}
use Rattle.report.specs.declared.Summary.{Summary}
use Rattle.report.specs.declared.Tally.{Tally}

-- nothing to report leaves the buffer as it was
none_written : (b : List ℕ) → 0 ≡ written_of [] b
unfolding written_of
none_written b = omega arith

-- what is turned away
pub report_refused : (b w : List ℕ) (o : Outcome) (fs : List Finding) (e : Refusal) (r : Report) → o ≡ Err e → r ≡ Err e → ReportBy o (findings_by o fs) b w r b w
report_refused b w o fs e r q d = record { refusal = rw (q, d); total = rw (q, d); written = rw (q, d, ← none_written b); buffer = rw q (sym (buffer-none b)); kept = λ _. refl }

-- what is counted
pub counted : (b b' : List ℕ) (fs : List Finding) (t : Tally) (a : Summary) → Added fs b no_tally b' t → length b' ≡ length b → a.total ≡ t.total → a.written ≡ min t.total (length b' / 4 / 3)
    → Reports fs b a b'
unfolding written_of
counted b b' fs t a d k g h =
    let c : t.total ≡ length fs = d.count ∙ zero-add (length fs) in
    record { total = g ∙ c; written = h ∙ rw (c, k); buffer = d.buffer ∙ put_all fs b }

-- what is judged
pub report_counted : (b w : List ℕ) (o : Outcome) (l : Layout) (fs : List Finding) (b' w' : List ℕ) (a : Summary) → o ≡ Ok l → Reports fs b a b' → ReportBy o (findings_by o fs) b w (Ok a) b' w'
report_counted b w o l fs b' w' a q d = record {
  refusal = rw q;
  total = rw q d.total;
  written = rw q d.written;
  buffer = rw q d.buffer;
  kept = λ z. absurd (true≢false (sym (ap is_accepted q) ∙ z));
}

pub report_done : (b w : List ℕ) (o : Outcome) (l : Layout) (fs : List Finding) (b' w' : List ℕ) (t : Tally) (a : Summary) → o ≡ Ok l
    → Added fs b no_tally b' t → length b' ≡ length b → a.total ≡ t.total → a.written ≡ min t.total (length b' / 4 / 3)
    → ReportBy o (findings_by o fs) b w (Ok a) b' w'
report_done b w o l fs b' w' t a q d k g h = report_counted b w o l fs b' w' a q (counted b b' fs t a d k g h)

pub accepted-numbered : (o : Outcome) (l : Layout) (p : Pack) → (is_accepted o ≡ true → Numbered p) → o ≡ Ok l → Numbered p
accepted-numbered o l p h e = h (ap is_accepted e)

-- as it is told of a listing, and of one with columns
module _ (s b w : List ℕ) (o : Outcome) (p : Pack) (r : Report) (b' w' : List ℕ) where
  pub report_listing : o ≡ outcome s → p ≡ pack_of s → ReportBy o (findings_by o (findings p)) b w r b' w' → ReportOf s b w r b' w'
  unfolding reported
  report_listing e q h = subst (λ (x : Outcome). ReportBy x (findings_by x (findings (pack_of s))) b w r b' w') e (subst (λ (x : Pack). ReportBy o (findings_by o (findings x)) b w r b' w') q h)

  pub report_columns : (cs ts : List (List ℕ)) → p ≡ pack_in form.Columns ts → o ≡ column_outcome s cs → ts ≡ column_tables s cs → ReportBy o (findings_by o (findings p)) b w r b' w' → ColumnReportOf s cs b w r b' w'
  unfolding column_reported column_pack
  report_columns cs ts d e q h =
      subst (λ (x : Outcome). ReportBy x (findings_by x (findings (column_pack s cs))) b w r b' w') e
      (subst (λ (x : Pack). ReportBy o (findings_by o (findings x)) b w r b' w') (d ∙ ap (pack_in form.Columns) q) h)

-- and of the metadata of its sibling
pub report_notes : (s m b w : List ℕ) (o : Outcome) (ts : List (List ℕ)) (r : Report) (b' w' : List ℕ) → o ≡ metadata_outcome s m → ts ≡ tables_for s m
    → ReportBy o (findings_by o (findings_of (metadata_scheme (notebook_in ts)))) b w r b' w' → MetadataReportOf s m b w r b' w'
unfolding metadata_reported notebook_of
report_notes s m b w o ts r b' w' e q h =
    subst (λ (x : Outcome). ReportBy x (findings_by x (findings_of (metadata_scheme (notebook_of s m)))) b w r b' w') e
    (subst (λ (us : List (List ℕ)). ReportBy o (findings_by o (findings_of (metadata_scheme (notebook_in us)))) b w r b' w') q h)

-- two answers that keep the promise are the same, and so are the buffers
pub report_one : (o : Outcome) (fs : List Finding) (b w : List ℕ) (r₁ r₂ : Report) (b₁ b₂ w₁ w₂ : List ℕ) → ReportBy o fs b w r₁ b₁ w₁ → ReportBy o fs b w r₂ b₂ w₂ → (r₁ ≡ r₂) × (b₁ ≡ b₂)
report_one o fs b w r₁ r₂ b₁ b₂ w₁ w₂ p q = (by r₁ r₂ (p.refusal ∙ sym q.refusal) (p.total ∙ sym q.total) (p.written ∙ sym q.written), p.buffer ∙ sym q.buffer)
  where
    by : (r q : Report) → refusal_in r ≡ refusal_in q → total_in r ≡ total_in q → written_in r ≡ written_in q → r ≡ q
    by (Ok x) (Ok y) e m k = λ j. Ok (record { total = m j; written = k j })
    by (Ok x) (Err e) d m k = cc
    by (Err e) (Ok x) d m k = cc
    by (Err e) (Err f) d m k = cc

-- ---- a verdict from a tally of its code's findings
pub tally_none : (fs : List Finding) (a : Ruling) → length fs ≡ 0 → a ≡ fail_or fs a
tally_none [] a e = refl
tally_none (f ∷ fs) a e = let z : ⊥ = omega arith in absurd z

pub tally_some : (fs : List Finding) (a : Ruling) (d : ℕ) → (length fs ≡ 0 → ⊥) → Fail (head_row fs d) ≡ fail_or fs a
tally_some [] a d n = absurd (n refl)
tally_some (f ∷ fs) a d n = refl

-- the ruling of a code from the tally of its findings
module _ (p : Pack) (c t : ℕ) (e : t ≡ tableOfCode c) (b b' : List ℕ) (k : Tally) (a : Added (of_code p c t) b no_tally b' k) where
  at_table_lem : fail_or (of_code p c t) (without_finding c (rows_in p t)) ≡ ruled p c
  unfolding ruled
  at_table_lem = ap (λ (u : ℕ). fail_or (of_code p c u) (without_finding c (rows_in p u))) e

  pub rule_fail : (k.total ≡ 0 → ⊥) → Fail k.row ≡ ruled p c
  rule_fail n =
      ap Fail a.row ∙ tally_some (of_code p c t) (without_finding c (rows_in p t)) none (λ z. n (a.count ∙ zero-add (length (of_code p c t)) ∙ z)) ∙ at_table_lem

  pub rule_clean : (n : ℕ) (v : Ruling) → k.total ≡ 0 → n ≡ rows_in p t → v ≡ without_finding c n → v ≡ ruled p c
  rule_clean n v z q f =
      f ∙ ap (without_finding c) q ∙ tally_none (of_code p c t) (without_finding c (rows_in p t)) (sym (a.count ∙ zero-add (length (of_code p c t))) ∙ z) ∙ at_table_lem

-- ---- a listing cut into its tables
module _ (s : List ℕ) (ts : List (List ℕ)) (e : pack_in form.Rows ts ≡ pack_of s) where
  pub cut_numbered : is_accepted (outcome s) ≡ true → Numbered (pack_in form.Rows ts)
  cut_numbered a = subst Numbered (sym e) (rows-numbered s a)

  -- by what was told of it
  pub cut_accepted : (o : Outcome) → o ≡ outcome s → is_accepted o ≡ true → Numbered (pack_in form.Rows ts)
  cut_accepted o q a = cut_numbered (ap is_accepted (sym q) ∙ a)

  pub cut_ruled : (c : ℕ) (v : Ruling) → v ≡ ruled (pack_in form.Rows ts) c → v ≡ ruled (pack_of s) c
  cut_ruled c v q = q ∙ ap (λ (p : Pack). ruled p c) e

-- and with its tiles in columns
pub columns-accepted : (s : List ℕ) (cs ts : List (List ℕ)) (o : Outcome) → ts ≡ column_tables s cs → o ≡ column_outcome s cs → is_accepted o ≡ true → Numbered (pack_in form.Columns ts)
unfolding column_pack
columns-accepted s cs ts o e q a = subst (λ (us : List (List ℕ)). Numbered (pack_in form.Columns us)) (sym e) (columns-numbered s cs (ap is_accepted (sym q) ∙ a))

-- and with its sibling
pub notes-accepted : (s m : List ℕ) (ts : List (List ℕ)) (o : Outcome) → ts ≡ tables_for s m → o ≡ metadata_outcome s m → is_accepted o ≡ true → Few (metadata_scheme (notebook_in ts))
unfolding notebook_of
notes-accepted s m ts o e q a = subst (λ (us : List (List ℕ)). Few (metadata_scheme (notebook_in us))) (sym e) (λ t. omega (arith, rows-most s m (ap is_accepted (sym q) ∙ a) t))

pub accepted-few : (o : Outcome) (l : Layout) (r : Scheme) → (is_accepted o ≡ true → Few r) → o ≡ Ok l → Few r
accepted-few o l r h e = h (ap is_accepted e)

pub accepted-by : (s : List ℕ) (o : Outcome) (l : Layout) → o ≡ outcome s → o ≡ Ok l → is_accepted (outcome s) ≡ true
accepted-by s o l e f = ap is_accepted (sym e ∙ f)

-- ---- the verdict
module _ (s : List ℕ) (c : ℕ) (w : List ℕ) where
  pub verdict_unlisted : tableOfCode c ≡ 0 → VerdictOf s c w (Err (refusal why.Code 0 0)) w
  verdict_unlisted z = record { ruling = sym (unlisted s c z); kept = λ _. refl }

  module _ (t : ℕ) (e : t ≡ tableOfCode c) (n : 0 < t) (o : Outcome) (f : o ≡ outcome s) where
    listed : tableOfCode c ≡ 0 → ⊥
    listed z = omega arith

    pub verdict_refused : (x : Refusal) (r : Verdict) → o ≡ Err x → r ≡ Err x → VerdictOf s c w r w
    verdict_refused x r g h = record { ruling = h ∙ sym (verdict_turned s c x listed (sym f ∙ g)); kept = λ _. refl }

    pub verdict_done : (l : Layout) (v : Ruling) (w' : List ℕ) → o ≡ Ok l → v ≡ ruled (pack_of s) c → VerdictOf s c w (Ok v) w'
    verdict_done l v w' g q =
        let is : Ok v ≡ verdict_of s c = ap Ok q ∙ sym (verdict_judged s c listed (ap is_accepted (sym f ∙ g))) in
        record { ruling = is; kept = λ z. absurd (false≢true (ap is_refused is ∙ z)) }

-- two answers that keep the promise are the same
pub verdict_one : (s : List ℕ) (c : ℕ) (w : List ℕ) (r₁ r₂ : Verdict) (w₁ w₂ : List ℕ) → VerdictOf s c w r₁ w₁ → VerdictOf s c w r₂ w₂ → r₁ ≡ r₂
verdict_one s c w r₁ r₂ w₁ w₂ p q = p.ruling ∙ sym q.ruling
