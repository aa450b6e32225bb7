-- 2026-02: "no new finding may appear". The list of findings is the list before the request less some findings of 451 and 452: all else, its order and its partners stay.
use Rattle.rules.specs.Judgments.{Judgment}
use Rattle.std.specs.Prelude.{ℕ, zero, suc, ◌≡◌, Bool, cond, ◌⊎◌, List, [], ◌∷◌, ◌++◌, None, Some, Ok, Err}
use Rattle.std.proofs.Math.Path.{refl}
use Rattle.std.proofs.Common.{sym, subst, ◌∙◌, inl, inr, eqb-true}
use Rattle.std.proofs.Math.Bool.{true, false}
use Rattle.std.proofs.Math.Dec.{eqb}
use Rattle.octets.specs.Gather.{gather}
use Rattle.listing.specs.Refusals.{outcome, Outcome}
use Rattle.pack.specs.Rows.{Pack, rows_in}
use Rattle.pack.specs.Tables.{pack_of}
use Rattle.rules.specs.Codes.{codes, tables, code_count, code_at, table_at, judged, judged_none}
use Rattle.rules.specs.FarLaws.{of451_before, of452_before, Fewer, fewer451, fewer452}
use Rattle.findings.specs.Findings.{Finding, found, at_row, at_none, of_code, of_place, findings, only}
use Rattle.findings.specs.Schemes.{Scheme, code_in, table_in, at_row_by, at_none_by, of_code_by, of_place_by, findings_of}
use Rattle.findings.specs.Answers.{findings_by, reported}

-- ---- the list before the request: the same, by the rules as they were
unfoldable pub judged_before : Pack → ℕ → ℕ → Judgment
judged_before p c i =
    cond (eqb c 451) (of451_before p.sets (p.matrices.row i))
    (cond (eqb c 452) (of452_before p.sets (p.matrices.row i))
    (judged p c i))

abbrev pub scheme_before : Pack → Scheme
scheme_before p = record { codes = codes; tables = tables; rows = rows_in p; says = judged_before p; says_none = judged_none p }

unfoldable pub findings_before : Pack → List Finding
findings_before p = findings_of (scheme_before p)

-- what a report of an octet string held
unfoldable pub reported_before : List ℕ → List Finding
reported_before s = findings_by (outcome s) (findings_before (pack_of s))

-- ---- a list, less some findings of 451 and 452
abbrev pub Extents : ℕ → Type 0
Extents c = (c ≡ 451) ⊎ (c ≡ 452)

pub data Less : List Finding → List Finding → Type 0 where
  none : Less [] []
  kept : {f : Finding} {xs ys : List Finding} → Less xs ys → Less (f ∷ xs) (f ∷ ys)
  gone : {f : Finding} {xs ys : List Finding} → Extents f.code → Less xs ys → Less xs (f ∷ ys)

all-kept : (xs : List Finding) → Less xs xs
all-kept [] = none
all-kept (x ∷ xs) = kept (all-kept xs)

less_append : {xs ys us vs : List Finding} → Less xs ys → Less us vs → Less (xs ++ us) (ys ++ vs)
less_append none k = k
less_append (kept h) k = kept (less_append h k)
less_append (gone e h) k = gone e (less_append h k)

less_gather : (f g : ℕ → List Finding) (n : ℕ) → ((i : ℕ) → Less (f i) (g i)) → Less (gather n f) (gather n g)
less_gather f g zero h = none
less_gather f g (suc n) h = less_append (less_gather f g n h) (h n)

-- ---- a row's judgment by 451 or 452 is clean or as it was, by any other code as it was
found_less : (c i : ℕ) (now before : Judgment) → Extents c → Fewer now before → Less (found c i now) (found c i before)
found_less c i now before x (inl e) = subst (λ (v : Judgment). Less (found c i v) (found c i before)) (sym e) (clean before)
  where
    clean : (v : Judgment) → Less [] (found c i v)
    clean None = none
    clean (Some j) = gone x none
found_less c i now before x (inr e) = subst (λ (v : Judgment). Less (found c i v) (found c i before)) (sym e) (all-kept (found c i before))

module _ (p : Pack) (i : ℕ) where
  now451 : Fewer (judged p 451 i) (of451_before p.sets (p.matrices.row i))
  unfolding judged
  now451 = fewer451 p.sets (p.matrices.row i)

  now452 : Fewer (judged p 452 i) (of452_before p.sets (p.matrices.row i))
  unfolding judged
  now452 = fewer452 p.sets (p.matrices.row i)

  code_less : (k : ℕ) (before : Judgment) → Extents k → Fewer (judged p k i) before → (c : ℕ) → c ≡ k → Less (found c i (judged p c i)) (found c i before)
  code_less k before x h c e = subst (λ (d : ℕ). Less (found d i (judged p d i)) (found d i before)) (sym e) (found_less k i (judged p k i) before x h)

  row_less : (c : ℕ) → Less (found c i (judged p c i)) (found c i (judged_before p c i))
  unfolding judged_before
  row_less c = by (eqb c 451) (eqb c 452) refl refl
    where
      by : (a b : Bool) → eqb c 451 ≡ a → eqb c 452 ≡ b
          → Less (found c i (judged p c i)) (found c i (cond a (of451_before p.sets (p.matrices.row i)) (cond b (of452_before p.sets (p.matrices.row i)) (judged p c i))))
      by true b e f = code_less 451 _ (inl refl) now451 c (eqb-true c 451 e)
      by false true e f = code_less 452 _ (inr refl) now452 c (eqb-true c 452 f)
      by false false e f = all-kept (found c i (judged p c i))

-- "no new finding may appear"
pub no_new_finding : (p : Pack) → Less (findings p) (findings_before p)
unfolding findings_before findings_of of_place_by of_code_by at_row_by at_none_by code_in table_in findings of_place of_code at_row at_none code_at table_at
no_new_finding p = less_gather _ _ code_count (λ k. less_append (less_gather _ _ (rows_in p (table_at k)) (λ i. row_less p i (code_at k))) (all-kept (at_none p (code_at k))))

-- the same of the report of every octet string
pub no_new_reported : (s : List ℕ) → Less (reported s) (reported_before s)
unfolding reported reported_before
no_new_reported s = by (outcome s)
  where
    by : (o : Outcome) → Less (findings_by o (findings (pack_of s))) (findings_by o (findings_before (pack_of s)))
    by (Ok l) = no_new_finding (pack_of s)
    by (Err e₀) = none

-- so the findings of every other code are those before
only_same : (c : ℕ) → (Extents c → ⊥) → {xs ys : List Finding} → Less xs ys → only c xs ≡ only c ys
only_same c n none = refl
only_same c n (kept {f} h) = rw (only_same c n h)
only_same c n (gone {f} {xs} {ys} x h) = only_same c n h ∙ passed (eqb f.code c) refl
  where
    passed : (b : Bool) → eqb f.code c ≡ b → only c ys ≡ cond b (f ∷ only c ys) (only c ys)
    passed true e = absurd (n (subst Extents (eqb-true f.code c e) x))
    passed false e = refl

pub others_stay : (p : Pack) (c : ℕ) → (Extents c → ⊥) → only c (findings p) ≡ only c (findings_before p)
others_stay p c n = only_same c n (no_new_finding p)
