-- "Verdicts (pass, fail with first row, not testable) agree with that definition every time", and 9 and the reader's reasons: of every octet string and code.
use Rattle.rules.specs.Judgments.{Judgment}
use Rattle.std.specs.Prelude.{ℕ, ◌≤◌, ◌≡◌, Bool, ◌||◌, ◌⊎◌, ◌↔◌, pos, negsuc, get_or, None, Ok, Err}
use Rattle.std.proofs.Math.Path.{refl, ap, subst}
use Rattle.std.proofs.Common.{sym, ◌∙◌, inl, inr, ⊎_elim, eq-eqb, ne_eqb, eqb-true}
use Rattle.std.proofs.Math.Bool.{true, false, cond}
use Rattle.std.proofs.lemmas.Bool.{false≢true, eqb-false}
use mathlib.Core.List.{List, [], ◌∷◌}
use Rattle.std.proofs.Math.Logic.Iff
use native.Mathlib.Omega.{arith}
use Rattle.std.proofs.Math.Dec.{eqb}
use Rattle.listing.specs.Refusals.{outcome, number_of, is_accepted, Outcome, number, refusal}
use Rattle.listing.specs.RefusalLaws.{readers_own, accepted-is}
use Rattle.listing.specs.declared.Refusal.{Refusal}
use Rattle.listing.specs.declared.Why.TheVariants as why
use Rattle.pack.specs.Rows.{Pack, rows_in}
use Rattle.pack.specs.Tables.{pack_of}
use Rattle.rules.specs.References.{lacks_id}
use Rattle.rules.specs.Contents.{none171}
use Rattle.rules.specs.Codes.{table_of, judged_none}
use Rattle.findings.specs.Findings.{Finding, at_none, of_code, findings, only, Ordered}
use Rattle.findings.specs.Schemes.{table_by}
use Rattle.findings.specs.Answers.{reported, fail_or, always_testable, without_finding, ruled, verdict_of, Verdict}
use Rattle.findings.specs.Words.{ruling_words}
use Rattle.findings.specs.Demands.{Stands, Listed, Asked, LowestRow, NoFinding, Testable}
use Rattle.findings.proofs.VerdictLaws.{verdict_of-list, fail_found, found_fail}
use Rattle.findings.specs.StandsLaws.{only_stands, stands_only, ordered-only, head-lowest}
use Rattle.findings.specs.ReportedLaws.{reported-judged, reported-exactly, reported-ordered}
use Rattle.findings.specs.RefusedLaws.{number-other}
use Rattle.findings.specs.declared.Ruling.{Ruling}
use Rattle.findings.specs.declared.Ruling.TheVariants.{Pass, Fail, NotTestable}

lowest-map : (A B : Finding → Type 0) (c i : ℕ) → ((f : Finding) → A f ↔ B f) → LowestRow A c i → LowestRow B c i
lowest-map A B c i e h =
    record { finding = h.finding; holds = (e h.finding).0 h.holds; code = h.code; row = h.row; lowest = λ g k q. h.lowest g ((e g).1 k) q }

-- ---- the ruling of a listed code, by the findings of a pack
-- which of the four a ruling is, and the number of a refusal: words of its answer
abbrev pub kind : Verdict → ℕ
kind v = get_or (ruling_words v) 0 0

abbrev said_number : Verdict → ℕ
said_number v = get_or (ruling_words v) 2 0

module _ (p : Pack) (c : ℕ) where
  pub ruled-kind : kind (Ok (ruled p c)) ≤ 2
  unfolding ruled without_finding
  ruled-kind = by (of_code p c (table_of c)) (eqb (rows_in p (table_of c)) 0) (always_testable c)
    where
      by : (fs : List Finding) (b d : Bool) → kind (Ok (fail_or fs (cond b (cond d Pass NotTestable) Pass))) ≤ 2
      by (f ∷ fs) b d = omega arith
      by [] true true = omega arith
      by [] true false = omega arith
      by [] false d = omega arith

  untestable : ruled p c ≡ NotTestable → (rows_in p (table_of c) ≡ 0) × (always_testable c ≡ false)
  unfolding ruled without_finding
  untestable e = by (of_code p c (table_of c)) (eqb (rows_in p (table_of c)) 0) (always_testable c) refl refl e
    where
      by : (fs : List Finding) (b d : Bool) → eqb (rows_in p (table_of c)) 0 ≡ b → always_testable c ≡ d
          → fail_or fs (cond b (cond d Pass NotTestable) Pass) ≡ NotTestable → (rows_in p (table_of c) ≡ 0) × (always_testable c ≡ false)
      by (f ∷ fs) b d y z q = absurd (omega (arith, ap (λ (v : Ruling). kind (Ok v)) q))
      by [] true true y z q = absurd (omega (arith, ap (λ (v : Ruling). kind (Ok v)) q))
      by [] true false y z q = (eqb-true (rows_in p (table_of c)) 0 y, z)
      by [] false d y z q = absurd (omega (arith, ap (λ (v : Ruling). kind (Ok v)) q))

  -- the four codes that have a finding without a row are the ones that are always testable
  none-clean : always_testable c ≡ false → judged_none p c ≡ None
  unfolding judged_none
  none-clean e = by (lacks_id (pos 4326) p.references) (lacks_id (negsuc 0) p.references) (lacks_id (pos 0) p.references) (none171 p.contents) (eqb c 111) (eqb c 112) (eqb c 113) (eqb c 171) e
    where
      by : (u v w x : Judgment) (i j k l : Bool) → (i || j || k || l) ≡ false → cond i u (cond j v (cond k w (cond l x None))) ≡ None
      by u v w x true j k l h = absurd (false≢true (sym h))
      by u v w x false true k l h = absurd (false≢true (sym h))
      by u v w x false false true l h = absurd (false≢true (sym h))
      by u v w x false false false true h = absurd (false≢true (sym h))
      by u v w x false false false false h = refl

  not_testable : rows_in p (table_of c) ≡ 0 → always_testable c ≡ false → ruled p c ≡ NotTestable
  unfolding ruled of_code at_none without_finding
  not_testable z d = rw (z, none-clean d, d)

module _ (p : Pack) (c : ℕ) (listed : Listed c) where
  -- pass is of a code that has no finding and can be tested
  pass_clean : ruled p c ≡ Pass → NoFinding (λ f. Stands f (findings p)) c × Testable c (rows_in p (table_of c))
  unfolding without_finding
  pass_clean e = by (only c (findings p)) (eqb (rows_in p (table_of c)) 0) (always_testable c) refl refl refl (sym (verdict_of-list p c listed) ∙ e)
    where
      by : (fs : List Finding) (b d : Bool) → only c (findings p) ≡ fs → eqb (rows_in p (table_of c)) 0 ≡ b → always_testable c ≡ d
          → fail_or fs (cond b (cond d Pass NotTestable) Pass) ≡ Pass → NoFinding (λ f. Stands f (findings p)) c × Testable c (rows_in p (table_of c))
      by (f ∷ fs) b d x y z q = absurd (omega (arith, ap (λ (v : Ruling). kind (Ok v)) q))
      by [] true false x y z q = absurd (omega (arith, ap (λ (v : Ruling). kind (Ok v)) q))
      by [] true true x y z q = (λ f h k. subst (λ (fs : List Finding). Stands f fs) x (only_stands c f (findings p) h k), λ _. z)
      by [] false d x y z q =
          (λ f h k. subst (λ (fs : List Finding). Stands f fs) x (only_stands c f (findings p) h k), λ n. absurd (eqb-false (rows_in p (table_of c)) 0 y n))

  clean_pass : NoFinding (λ f. Stands f (findings p)) c → Testable c (rows_in p (table_of c)) → ruled p c ≡ Pass
  unfolding without_finding
  clean_pass none t = verdict_of-list p c listed ∙ by (only c (findings p)) (eqb (rows_in p (table_of c)) 0) refl refl
    where
      by : (fs : List Finding) (b : Bool) → only c (findings p) ≡ fs → eqb (rows_in p (table_of c)) 0 ≡ b → fail_or fs (cond b (cond (always_testable c) Pass NotTestable) Pass) ≡ Pass
      by (f ∷ fs) b x y = let k = stands_only c f (findings p) (subst (λ (xs : List Finding). Stands f xs) (sym x) (inl refl)) in absurd (none f k.0 k.1)
      by [] true x y = rw (t (eqb-true (rows_in p (table_of c)) 0 y))
      by [] false x y = refl

module _ (p : Pack) (c : ℕ) (listed : Listed c) (ordered : Ordered (findings p)) where
  fail_lowest : (i : ℕ) → ruled p c ≡ Fail i → LowestRow (λ f. Stands f (findings p)) c i
  fail_lowest i e =
      let h = fail_found p c listed i e in
      let k = stands_only c h.finding (findings p) (subst (λ (fs : List Finding). Stands h.finding fs) (sym h.list) (inl refl)) in
      let o = subst Ordered h.list (ordered-only c (findings p) ordered) in
      record {
        finding = h.finding;
        holds = k.0;
        code = k.1;
        row = h.row;
        lowest = λ g a q. subst (λ (m : ℕ). m ≤ g.row) h.row (head-lowest h.finding g h.rest o (subst (λ (fs : List Finding). Stands g fs) h.list (only_stands c g (findings p) a q)) (q ∙ sym k.1));
      }

  lowest_fail : (i : ℕ) → LowestRow (λ f. Stands f (findings p)) c i → ruled p c ≡ Fail i
  lowest_fail i h = by (only c (findings p)) refl
    where
      by : (fs : List Finding) → only c (findings p) ≡ fs → ruled p c ≡ Fail i
      by [] e = absurd (subst (λ (fs : List Finding). Stands h.finding fs) e (only_stands c h.finding (findings p) h.holds h.code))
      by (g ∷ fs) e =
          let k = stands_only c g (findings p) (subst (λ (xs : List Finding). Stands g xs) (sym e) (inl refl)) in
          let o = subst Ordered e (ordered-only c (findings p) ordered) in
          let a = head-lowest g h.finding fs o (subst (λ (xs : List Finding). Stands h.finding xs) e (only_stands c h.finding (findings p) h.holds h.code)) (h.code ∙ sym k.1) in
          let b = h.lowest g k.0 k.1 in
          found_fail p c listed i (record { finding = g; rest = fs; list = e; row = omega (arith, a, b, h.row) })

-- ---- the verdict of an octet string
module _ (s : List ℕ) (c : ℕ) where
  pub verdict_unlisted : table_of c ≡ 0 → verdict_of s c ≡ Err (refusal why.Code 0 0)
  unfolding verdict_of
  verdict_unlisted z = rw (eq-eqb (table_of c) 0 z)

  pub verdict_turned : (e : Refusal) → Listed c → outcome s ≡ Err e → verdict_of s c ≡ Err e
  unfolding verdict_of
  verdict_turned e l o = rw (ne_eqb (table_of c) 0 l, o)

  pub verdict_judged : Listed c → is_accepted (outcome s) ≡ true → verdict_of s c ≡ Ok (ruled (pack_of s) c)
  unfolding verdict_of
  verdict_judged l a = rw (ne_eqb (table_of c) 0 l, accepted-is s a)

  -- what holds of 9, of the reader's refusals and of rulings holds of every verdict
  pub verdict_cases : (P : Verdict → Type 0) → (table_of c ≡ 0 → P (Err (refusal why.Code 0 0))) → ((e : Refusal) → Listed c → outcome s ≡ Err e → P (Err e))
      → (Listed c → is_accepted (outcome s) ≡ true → P (Ok (ruled (pack_of s) c))) → P (verdict_of s c)
  verdict_cases P unlisted turned judged = by (eqb (table_of c) 0) (outcome s) refl refl
    where
      by : (b : Bool) (o : Outcome) → eqb (table_of c) 0 ≡ b → outcome s ≡ o → P (verdict_of s c)
      by true o e f = let z = eqb-true (table_of c) 0 e in subst P (sym (verdict_unlisted z)) (unlisted z)
      by false (Ok l) e f = let n = eqb-false (table_of c) 0 e in let a = ap is_accepted f in subst P (sym (verdict_judged n a)) (judged n a)
      by false (Err w) e f = let l = eqb-false (table_of c) 0 e in subst P (sym (verdict_turned w l f)) (turned w l f)

  -- a verdict that is a refusal, and one that is none
  verdict_refused : (w : Refusal) → verdict_of s c ≡ Err w → ((table_of c ≡ 0) × (9 ≡ number w.why)) ⊎ (Listed c × (outcome s ≡ Err w))
  verdict_refused w =
      verdict_cases (λ v. v ≡ Err w → ((table_of c ≡ 0) × (9 ≡ number w.why)) ⊎ (Listed c × (outcome s ≡ Err w)))
      (λ z e. inl (z, ap said_number e))
      (λ q l o e. inr (l, cc))
      (λ l a e. absurd (omega (arith, ap kind e, ruled-kind (pack_of s) c)))

  verdict_ruled : (v : Ruling) → verdict_of s c ≡ Ok v → (is_accepted (outcome s) ≡ true) × Listed c × (ruled (pack_of s) c ≡ v)
  verdict_ruled v =
      verdict_cases (λ w. w ≡ Ok v → (is_accepted (outcome s) ≡ true) × Listed c × (ruled (pack_of s) c ≡ v))
      (λ z e. cc)
      (λ w l o e. cc)
      (λ l a e. (a, l, cc))

  -- 9: "a verdict asked for a code not listed; checked before 1"
  pub verdict_nine : (verdict_of s c ≡ Err (refusal why.Code 0 0)) ↔ (table_of c ≡ 0)
  verdict_nine =
      (λ e. ⊎_elim (λ h. h.0) (λ h. absurd (number-other s 9 refl (ap number_of h.1))) (verdict_refused (refusal why.Code 0 0) e), verdict_unlisted)

  -- 1 to 8 and 13: exactly where the code is listed and the listing is refused so, with that place
  pub verdict_reader : (w : Refusal) → readers_own (number w.why) ≡ true → (verdict_of s c ≡ Err w) ↔ (Listed c × (outcome s ≡ Err w))
  verdict_reader w l =
      (λ e. ⊎_elim (λ h. absurd (false≢true (ap readers_own h.1 ∙ l))) (λ h. h) (verdict_refused w e), λ q. verdict_turned w q.0 q.1)

  ordered : is_accepted (outcome s) ≡ true → Ordered (findings (pack_of s))
  ordered a = subst Ordered (reported-judged s a) (reported-ordered s)

  -- "fail with first row": exactly where the report has a finding of the code, with the lowest row of them
  pub verdict_fail : (i : ℕ) → (verdict_of s c ≡ Ok (Fail i)) ↔ LowestRow (λ f. Stands f (reported s)) c i
  unfolding table_of table_by
  verdict_fail i = (fails, failed)
    where
      fails : verdict_of s c ≡ Ok (Fail i) → LowestRow (λ f. Stands f (reported s)) c i
      fails e =
          let q = verdict_ruled (Fail i) e in
          rw (reported-judged s q.0) (fail_lowest (pack_of s) c q.1 (ordered q.0) i q.2)

      failed : LowestRow (λ f. Stands f (reported s)) c i → verdict_of s c ≡ Ok (Fail i)
      failed h =
          let q = (reported-exactly s h.finding).0 h.holds in
          let l = subst Listed h.code q.1.listed in
          verdict_judged l q.0 ∙ ap Ok (lowest_fail (pack_of s) c l (ordered q.0) i (rw (reported-judged s q.0) at h))

  -- the same by the rules, without the report
  pub verdict_fail_rule : (i : ℕ) → (verdict_of s c ≡ Ok (Fail i)) ↔ LowestRow (Asked s) c i
  verdict_fail_rule i = (to, back)
    where
      to : verdict_of s c ≡ Ok (Fail i) → LowestRow (Asked s) c i
      to e = lowest-map (λ f. Stands f (reported s)) (Asked s) c i (reported-exactly s) ((verdict_fail i).0 e)

      back : LowestRow (Asked s) c i → verdict_of s c ≡ Ok (Fail i)
      back h = (verdict_fail i).1 (lowest-map (Asked s) (λ f. Stands f (reported s)) c i (λ f. Iff.symm (reported-exactly s f)) h)

  -- "pass otherwise": the code has no finding, and can be tested
  pub verdict_pass : (verdict_of s c ≡ Ok Pass)
      ↔ ((is_accepted (outcome s) ≡ true) × Listed c × NoFinding (λ f. Stands f (reported s)) c × Testable c (rows_in (pack_of s) (table_of c)))
  verdict_pass = (
    λ e.
        let q = verdict_ruled Pass e in
        let k = pass_clean (pack_of s) c q.1 q.2 in
        (q.0, q.1, rw (reported-judged s q.0) k.0, k.1),
    λ h.
        verdict_judged h.1 h.0 ∙ ap Ok (clean_pass (pack_of s) c h.1 (rw (reported-judged s h.0) at h.2) h.3),
  )

  -- "not testable where the code's table is empty and the code is not 111, 112, 113 or 171"
  pub verdict_not_testable : (verdict_of s c ≡ Ok NotTestable)
      ↔ ((is_accepted (outcome s) ≡ true) × Listed c × (rows_in (pack_of s) (table_of c) ≡ 0) × (always_testable c ≡ false))
  verdict_not_testable = (
    λ e.
        let q = verdict_ruled NotTestable e in
        let k = untestable (pack_of s) c q.2 in
        (q.0, q.1, k.0, k.1),
    λ h. verdict_judged h.1 h.0 ∙ ap Ok (not_testable (pack_of s) c h.2 h.3),
  )
