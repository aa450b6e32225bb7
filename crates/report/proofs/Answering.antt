-- What a call answers by what its check has said: a refusal is handed on, and an accepted listing judged.
use Prim.Native.Nat.{ℕ, ◌<◌}
use Rattle.std.specs.Prelude.{◌≡◌, List, true, Result, Ok, Err, IsErrAnd, ℤ}
use Rattle.std.proofs.Common.{sym, ap, ◌∙◌, subst}
use Rattle.listing.proofs.Outcomes.{handed}
use Rattle.listing.specs.Refusals.{Outcome, outcome, is_accepted}
use Rattle.listing.specs.declared.Layout.{Layout}
use Rattle.listing.specs.declared.Refusal.{Refusal}
use Rattle.pack.specs.Rows.{Pack}
use Rattle.pack.specs.Tables.{pack_in, pack_of}
use Rattle.pack.specs.declared.Form.{Form}
use Rattle.pack.specs.declared.Form.TheVariants as form
use Rattle.rules.specs.Codes.{table_of}
use Rattle.columns.specs.Refusals.{column_outcome}
use Rattle.columns.specs.Tiles.{column_tables, column_pack}
use Rattle.metadata.specs.Tables.{tables_for, notebook_in, notebook_of}
use Rattle.metadata.specs.Refusals.{metadata_outcome}
use Rattle.findings.specs.Findings.{Finding, findings}
use Rattle.findings.specs.Schemes.{findings_of}
use Rattle.findings.specs.Answers.{findings_by, reported, ruled, Verdict, Located, looked_up, located_by, lookup_of}
use Rattle.findings.specs.ColumnAnswers.{column_reported, column_lookup}
use Rattle.findings.specs.MetadataAnswers.{metadata_scheme, metadata_reported}
use Rattle.findings.specs.OrderLaws.{Numbered}
use Rattle.findings.specs.declared.Ruling.{Ruling}
use Rattle.report.specs.Promises.{Report, Reports, ReportBy, ReportOf, ColumnReportOf, MetadataReportOf, VerdictOf}
use Rattle.report.specs.PromiseLaws.{report_refused, report_counted, cut_numbered, cut_accepted, cut_ruled, columns-accepted, notes-accepted, verdict_refused, verdict_done}
use Rattle.report.specs.WalkLaws.{Few}
use Rattle.report.specs.declared.Summary.{Summary}

-- ---- the report
module _ (o q : Outcome) (f : o ≡ q) (fs : List Finding) (b w : List ℕ) where
  turned : (e : Refusal) (r : Report) → o ≡ Err e → IsErrAnd r (λ x. x ≡ e) → ReportBy q (findings_by q fs) b w r b w
  turned e r g h = subst (λ (x : Outcome). ReportBy x (findings_by x fs) b w r b w) f (report_refused b w o fs e r g (handed e r h))

  done : (l : Layout) (b' w' : List ℕ) (a : Summary) → o ≡ Ok l → Reports fs b a b' → ReportBy q (findings_by q fs) b w (Ok a) b' w'
  done l b' w' a g d = subst (λ (x : Outcome). ReportBy x (findings_by x fs) b w (Ok a) b' w') f (report_counted b w o l fs b' w' a g d)

-- of a listing, whose tables have a form
module _ (s : List ℕ) (o : Outcome) (f : o ≡ outcome s) where
  pub listing_refused : (b w : List ℕ) (e : Refusal) (r : Report) → o ≡ Err e → IsErrAnd r (λ x. x ≡ e) → ReportOf s b w r b w
  unfolding reported
  listing_refused b w e r g h = turned o (outcome s) f (findings (pack_of s)) b w e r g h

  module _ (l : Layout) (a : o ≡ Ok l) (g : Form) (ts : List (List ℕ)) (h : g ≡ form.Rows) (e : pack_in form.Rows ts ≡ pack_of s) where
    pub as_pack : pack_in g ts ≡ pack_of s
    as_pack = ap (λ (x : Form). pack_in x ts) h ∙ e

    pub listing_numbered : Numbered (pack_in g ts)
    listing_numbered = subst (λ (x : Form). Numbered (pack_in x ts)) (sym h) (cut_accepted s ts e o f (ap is_accepted a))

    pub listing_done : (b w b' w' : List ℕ) (r : Summary) → Reports (findings (pack_in g ts)) b r b' → ReportOf s b w (Ok r) b' w'
    unfolding reported
    listing_done b w b' w' r d = done o (outcome s) f (findings (pack_of s)) b w l b' w' r a (subst (λ (p : Pack). Reports (findings p) b r b') as_pack d)

    -- and the lookup in one
    pub listing_looked : (k : ℕ) (z c i : ℤ) (v : Located) → v ≡ looked_up (pack_in g ts) k z c i → v ≡ lookup_of s k z c i
    unfolding lookup_of
    listing_looked k z c i v q = q ∙ ap (λ (p : Pack). looked_up p k z c i) as_pack ∙ sym (ap (λ (x : Outcome). located_by x (looked_up (pack_of s) k z c i)) (sym f ∙ a))

  pub lookup_refused : (k : ℕ) (z c i : ℤ) (e : Refusal) (v : Located) → o ≡ Err e → IsErrAnd v (λ x. x ≡ e) → v ≡ lookup_of s k z c i
  unfolding lookup_of
  lookup_refused k z c i e v g h = handed e v h ∙ sym (ap (λ (x : Outcome). located_by x (looked_up (pack_of s) k z c i)) (sym f ∙ g))

-- the verdict of a listing that is known to be accepted
module _ (s : List ℕ) (g : Form) (ts : List (List ℕ)) (h : g ≡ form.Rows) (e : pack_in form.Rows ts ≡ pack_of s) where
  pub accepted_numbered : is_accepted (outcome s) ≡ true → Numbered (pack_in g ts)
  accepted_numbered a = subst (λ (x : Form). Numbered (pack_in x ts)) (sym h) (cut_numbered s ts e a)

  pub accepted-ruled : (c : ℕ) (v : Ruling) → v ≡ ruled (pack_in g ts) c → v ≡ ruled (pack_of s) c
  accepted-ruled c v q = cut_ruled s ts e c v (q ∙ ap (λ (x : Form). ruled (pack_in x ts) c) h)

-- and what it answers
module _ (s : List ℕ) (c : ℕ) (w : List ℕ) (t : ℕ) (k : t ≡ table_of c) (n : 0 < t) (o : Outcome) (f : o ≡ outcome s) where
  pub verdict_handed : (e : Refusal) (v : Verdict) → o ≡ Err e → IsErrAnd v (λ x. x ≡ e) → VerdictOf s c w v w
  verdict_handed e v g h = verdict_refused s c w t k n o f e v g (handed e v h)

  pub verdict-ruled : (l : Layout) (v : Ruling) (w' : List ℕ) → o ≡ Ok l → v ≡ ruled (pack_of s) c → VerdictOf s c w (Ok v) w'
  verdict-ruled l v w' g q = verdict_done s c w t k n o f l v w' g q

-- of one with its tiles in columns
module _ (s : List ℕ) (cs : List (List ℕ)) (o : Outcome) (f : o ≡ column_outcome s cs) where
  pub columns_refused : (b w : List ℕ) (e : Refusal) (r : Report) → o ≡ Err e → IsErrAnd r (λ x. x ≡ e) → ColumnReportOf s cs b w r b w
  unfolding column_reported
  columns_refused b w e r g h = turned o (column_outcome s cs) f (findings (column_pack s cs)) b w e r g h

  module _ (l : Layout) (a : o ≡ Ok l) (g : Form) (ts : List (List ℕ)) (h : g ≡ form.Columns) (e : ts ≡ column_tables s cs) where
    as_columns : pack_in g ts ≡ column_pack s cs
    unfolding column_pack
    as_columns = ap (λ (x : Form). pack_in x ts) h ∙ ap (pack_in form.Columns) e

    pub columns_numbered : Numbered (pack_in g ts)
    columns_numbered = subst (λ (x : Form). Numbered (pack_in x ts)) (sym h) (columns-accepted s cs ts o e f (ap is_accepted a))

    pub columns_done : (b w b' w' : List ℕ) (r : Summary) → Reports (findings (pack_in g ts)) b r b' → ColumnReportOf s cs b w (Ok r) b' w'
    unfolding column_reported
    columns_done b w b' w' r d = done o (column_outcome s cs) f (findings (column_pack s cs)) b w l b' w' r a (subst (λ (p : Pack). Reports (findings p) b r b') as_columns d)

    pub columns_looked : (k : ℕ) (z c i : ℤ) (v : Located) → v ≡ looked_up (pack_in g ts) k z c i → v ≡ column_lookup s cs k z c i
    unfolding column_lookup
    columns_looked k z c i v q = q ∙ ap (λ (p : Pack). looked_up p k z c i) as_columns ∙ sym (ap (λ (x : Outcome). located_by x (looked_up (column_pack s cs) k z c i)) (sym f ∙ a))

  pub column_lookup_refused : (k : ℕ) (z c i : ℤ) (e : Refusal) (v : Located) → o ≡ Err e → IsErrAnd v (λ x. x ≡ e) → v ≡ column_lookup s cs k z c i
  unfolding column_lookup
  column_lookup_refused k z c i e v g h = handed e v h ∙ sym (ap (λ (x : Outcome). located_by x (looked_up (column_pack s cs) k z c i)) (sym f ∙ g))

-- of the metadata of its sibling
module _ (s m : List ℕ) (o : Outcome) (f : o ≡ metadata_outcome s m) where
  pub notes_refused : (b w : List ℕ) (e : Refusal) (r : Report) → o ≡ Err e → IsErrAnd r (λ x. x ≡ e) → MetadataReportOf s m b w r b w
  unfolding metadata_reported
  notes_refused b w e r g h = turned o (metadata_outcome s m) f (findings_of (metadata_scheme (notebook_of s m))) b w e r g h

  module _ (l : Layout) (a : o ≡ Ok l) (ts : List (List ℕ)) (e : ts ≡ tables_for s m) where
    pub notes_few : Few (metadata_scheme (notebook_in ts))
    notes_few = notes-accepted s m ts o e f (ap is_accepted a)

    pub notes_done : (b w b' w' : List ℕ) (r : Summary) → Reports (findings_of (metadata_scheme (notebook_in ts))) b r b' → MetadataReportOf s m b w (Ok r) b' w'
    unfolding metadata_reported notebook_of
    notes_done b w b' w' r d =
        done o (metadata_outcome s m) f (findings_of (metadata_scheme (notebook_of s m))) b w l b' w' r a (subst (λ (us : List (List ℕ)). Reports (findings_of (metadata_scheme (notebook_in us))) b r b') e d)
