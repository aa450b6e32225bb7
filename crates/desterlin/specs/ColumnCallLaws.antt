-- What a caller of the calls on columns has from their promises: one answer, a refusal that writes nothing, columns that hold what the fill writes, and from such columns the answers from rows.
use Rattle.std.specs.Prelude.{ℕ, ◌*◌, ◌<◌, ◌≤◌, List, [], ◌∷◌, ◌≡◌, Bool, cond, ℤ, length, get_or, Ok, Err}
use Rattle.std.proofs.Math.Path.{refl}
use Rattle.std.proofs.Common.{sym, ap, ◌∙◌, subst, true≢false, arith, lt-ltb, le-ltb}
use Rattle.std.proofs.Math.Bool.{true, false}
use Rattle.octets.specs.Octets.{le32, filled}
use Rattle.octets.specs.BufferLaws.{filled_none}
use Rattle.octets.specs.Slices.{nth}
use Rattle.listing.specs.Listing.{table, rows}
use Rattle.listing.specs.Refusals.{outcome, is_accepted, checked, number_of, table_of, row_of, Outcome, Checked, refusal}
use Rattle.listing.specs.declared.Refusal.{Refusal}
use Rattle.listing.specs.declared.Why.TheVariants as why
use Rattle.listing.specs.RefusalLaws.{none-numbered}
use Rattle.columns.specs.Refusals.{is_short, fill_answer, column_outcome}
use Rattle.columns.specs.Tiles.{given, FillOf}
use Rattle.columns.specs.ColumnRefusalLaws.{fill_same, fill_rest}
use Rattle.columns.specs.FilledLaws.{Holds, filled-holds, held-outcome}
use Rattle.findings.specs.Demands.{AllFit}
use Rattle.findings.specs.Findings.{Finding}
use Rattle.findings.specs.Answers.{reported, Located}
use Rattle.findings.specs.ColumnLaws.{filled-reported, filled_lookup}
use Rattle.findings.specs.RefusedLaws.{written-fit, place-fits}
use Rattle.desterlin.specs.Calls.{ReportAnswer, ReportCall, LookupAnswer, LookupCall, ColumnReportCall, ColumnLookupCall, checked_words, FillCall}
use Rattle.desterlin.specs.AnswerLaws.{answer-read}

-- ---- two answers that keep one promise are the same
pub fill_one : {s : List ℕ} {bs : List (List ℕ)} {a : List ℕ} {r₁ r₂ : ℕ} {cs₁ cs₂ : List (List ℕ)} {a₁ a₂ : List ℕ} → FillCall s bs a r₁ cs₁ a₁ → FillCall s bs a r₂ cs₂ a₂
    → (r₁ ≡ r₂) × (a₁ ≡ a₂) × (nth cs₁ 0 ≡ nth cs₂ 0) × (nth cs₁ 1 ≡ nth cs₂ 1) × (nth cs₁ 2 ≡ nth cs₂ 2) × (nth cs₁ 3 ≡ nth cs₂ 3)
fill_one p q = (p.status ∙ sym q.status, p.answer ∙ sym q.answer, p.firsts ∙ sym q.firsts, p.zooms ∙ sym q.zooms, p.columns ∙ sym q.columns, p.rows ∙ sym q.rows)

-- ---- "where the answer buffer is too short, nothing is written and 0 is returned"
pub fill_short_kept : {s : List ℕ} {bs : List (List ℕ)} {a : List ℕ} {r : ℕ} {cs : List (List ℕ)} {a' : List ℕ} → FillCall s bs a r cs a' → length a < 12
    → (r ≡ 0) × (a' ≡ a) × (nth cs 0 ≡ nth bs 0) × (nth cs 1 ≡ nth bs 1) × (nth cs 2 ≡ nth bs 2) × (nth cs 3 ≡ nth bs 3)
fill_short_kept {a = a} p h =
    let t = lt-ltb (length a) 12 h in
    (p.status ∙ rw t, p.answer ∙ rw t, p.firsts ∙ rw t, p.zooms ∙ rw t, p.columns ∙ rw t, p.rows ∙ rw t)

-- ---- number, table and row fit their words, and the number is 0 where nothing is refused alone
module _ (s : List ℕ) (bs : List (List ℕ)) where
  fill_cases : (P : Checked → Type 0) → P (Ok tt) → P (Err (refusal why.Columns 5 0)) → ((e : Refusal) → outcome s ≡ Err e → P (Err e)) → P (fill_answer s bs)
  unfolding checked
  fill_cases P clean short turned = by (outcome s) refl
    where
      by-room : (b : Bool) → P (cond b (Err (refusal why.Columns 5 0)) (Ok tt))
      by-room true = short
      by-room false = clean

      by : (o : Outcome) → outcome s ≡ o → P (fill_answer s bs)
      by (Ok l) e = subst P (sym (fill_rest s bs (ap is_accepted e))) (by-room (is_short (rows 5 (table s 5)) bs))
      by (Err w) e = subst P (sym (fill_same s bs w e)) (turned w e)

  fill_fits : AllFit (checked_words (fill_answer s bs))
  fill_fits =
      fill_cases (λ v. AllFit (checked_words v)) (written-fit (0 ∷ 0 ∷ 0 ∷ []) refl) (written-fit (14 ∷ 5 ∷ 0 ∷ []) refl)
      (λ w e. subst (λ (o : Outcome). AllFit (number_of o ∷ table_of o ∷ row_of o ∷ [])) e (place-fits s))

  fill_none : get_or (checked_words (fill_answer s bs)) 0 0 ≡ 0 → fill_answer s bs ≡ Ok tt
  fill_none =
      fill_cases (λ v. get_or (checked_words v) 0 0 ≡ 0 → v ≡ Ok tt) (λ _. refl) (λ z. absurd (omega (arith, z)))
      (λ w e z. absurd (true≢false (sym (none-numbered s (ap number_of e ∙ z)) ∙ ap is_accepted e)))

  three : length (checked_words (fill_answer s bs)) ≡ 3
  three = by (fill_answer s bs)
    where
      by : (v : Checked) → length (checked_words v) ≡ 3
      by (Ok u) = refl
      by (Err e) = refl

module _ (s : List ℕ) {bs : List (List ℕ)} {a : List ℕ} {r : ℕ} {cs : List (List ℕ)} {a' : List ℕ} (p : FillCall s bs a r cs a') (whole : 12 ≤ length a) where
  -- each word of the answer reads as its number
  pub fill_reads : (k : ℕ) → k < 3 → le32 a' (4 * k) ≡ get_or (checked_words (fill_answer s bs)) k 0
  fill_reads k l = answer-read 12 (checked_words (fill_answer s bs)) a a' k whole (fill_fits s bs) (subst (λ (n : ℕ). k < n) (sym (three s bs)) l) p.answer

  wrote : FillOf s bs (fill_answer s bs) cs
  wrote = let t = le-ltb (length a) 12 whole in record { answer = refl; firsts = p.firsts ∙ rw t; zooms = p.zooms ∙ rw t; columns = p.columns ∙ rw t; rows = p.rows ∙ rw t }

  -- "nothing is written on any" refusal
  pub fill_refused_kept : (le32 a' 0 ≡ 0 → ⊥) → (nth cs 0 ≡ nth bs 0) × (nth cs 1 ≡ nth bs 1) × (nth cs 2 ≡ nth bs 2) × (nth cs 3 ≡ nth bs 3)
  fill_refused_kept n = (wrote.firsts ∙ kept 0 (nth bs 0), wrote.zooms ∙ kept 1 (nth bs 1), wrote.columns ∙ kept 2 (nth bs 2), wrote.rows ∙ kept 3 (nth bs 3))
    where
      by : (v : Checked) → (get_or (checked_words v) 0 0 ≡ 0 → ⊥) → (k : ℕ) (b : List ℕ) → filled (given v (table s 5) k) b ≡ b
      by (Ok u) m k b = absurd (m refl)
      by (Err e) m k b = sym (filled_none b)

      kept : (k : ℕ) (b : List ℕ) → filled (given (fill_answer s bs) (table s 5) k) b ≡ b
      kept = by (fill_answer s bs) (λ z. n (fill_reads 0 (omega arith) ∙ z))

  -- and where the answer says 0, the columns hold what the fill writes
  pub fill_holds : le32 a' 0 ≡ 0 → Holds s cs
  fill_holds z = filled-holds s bs cs (subst (λ (v : Checked). FillOf s bs v cs) (fill_none s bs (sym (fill_reads 0 (omega arith)) ∙ z)) wrote)

-- ---- "Where the columns hold what the fill writes, both are proved equal to those from rows": the calls on columns keep the promises of those on rows, every octet of every buffer
module _ (s : List ℕ) (p : (k : ℕ) → get_or s k 0 < 256) (cs : List (List ℕ)) (h : Holds s cs) where
  pub report_as_rows : {b w a : List ℕ} {r : ℕ} {b' w' a' : List ℕ} → ColumnReportCall s cs b w a r b' w' a' → ReportCall s b w a r b' w' a'
  report_as_rows {b} {w} {a} {r} {b'} {w'} {a'} q =
      subst (λ (o : Outcome). ReportAnswer o (reported s) b w a r b' w' a') (held-outcome s p cs h)
      (subst (λ (fs : List Finding). ReportAnswer (column_outcome s cs) fs b w a r b' w' a') (filled-reported s p cs h) q)

  pub lookup_as_rows : (k : ℕ) (z c i : ℤ) {a : List ℕ} {r : ℕ} {a' : List ℕ} → ColumnLookupCall s cs k z c i a r a' → LookupCall s k z c i a r a'
  lookup_as_rows k z c i {a} {r} {a'} q = subst (λ (v : Located). LookupAnswer v a r a') (filled_lookup s p cs h k z c i) q
