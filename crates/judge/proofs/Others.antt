-- A number that is no code: the last arm of a match on codes.
use Rattle.std.specs.Prelude.{None}
use Prim.Native.Nat.{ℕ}
use mathlib.Core.Path.{◌≡◌, refl, ap, ◌∙◌, subst}
use mathlib.Core.Bool.{Bool, true, cond, ◌&&◌, and-eq-true_iff}
use mathlib.Core.List.{List, [], ◌∷◌}
use native.Mathlib.Omega.{arith}
use borrow.Author.Tests.{ne_eqb, ltb-true}
use lib.Dec.{eqb, ltb}
use Rattle.pack.specs.Rows.{Pack}
use Rattle.rules.specs.Codes.{table_of, judged, judged_none}
use Rattle.rules.specs.CodeLaws.{Other, among, none-among, Covers, not_of_table}
use Rattle.judge.specs.declared.Plan.TheVariants.{Plain}
use Rattle.judge.specs.Plans.{plan_of}

-- the arms, each tried before those that stand before it in the list
abbrev arms : {A : Type 0} → ℕ → List ℕ → (ℕ → A) → A → A
arms code [] f u = u
arms code (c ∷ cs) f u = arms code cs f (cond (eqb code c) (f c) u)

past : {A : Type 0} (code : ℕ) (cs : List ℕ) (f : ℕ → A) (v u : A) → Other code cs → v ≡ u → v ≡ arms code cs f u
past code [] f v u r e = e
past code (c ∷ cs) f v u r e = past code cs f v (cond (eqb code c) (f c) u) r.0 (simp (ne_eqb code c r.1) e)

-- ---- the judge of a table: a code of the table is one of its arms
pub no_arm : (t code : ℕ) (cs : List ℕ) → ltb 0 t ≡ true → Covers t cs → table_of code ≡ t → Other code cs → ⊥
no_arm t code cs n v e o = not_of_table t code cs (λ z. omega (arith, ltb-true 0 t n)) v e o

abbrev pub reference_codes : List ℕ
reference_codes = 113 ∷ 112 ∷ 111 ∷ 101 ∷ []

abbrev pub contents_codes : List ℕ
contents_codes = 401 ∷ 171 ∷ 162 ∷ 161 ∷ 151 ∷ 131 ∷ []

abbrev pub set_codes : List ℕ
set_codes = 411 ∷ 392 ∷ 391 ∷ []

abbrev pub matrix_codes : List ℕ
matrix_codes = 531 ∷ 521 ∷ 511 ∷ 501 ∷ 491 ∷ 481 ∷ 471 ∷ 461 ∷ 452 ∷ 451 ∷ 432 ∷ 431 ∷ 351 ∷ []

abbrev pub tile_codes : List ℕ
tile_codes = 571 ∷ 561 ∷ 551 ∷ 541 ∷ 441 ∷ 341 ∷ []

abbrev pub extension_codes : List ℕ
extension_codes = 641 ∷ 622 ∷ 621 ∷ 601 ∷ []

-- ---- the dispatch by table: a number that is no table's has no code
abbrev row_codes : List ℕ
row_codes = 641 ∷ 622 ∷ 621 ∷ 601 ∷ 571 ∷ 561 ∷ 551 ∷ 541 ∷ 531 ∷ 521 ∷ 511 ∷ 501 ∷ 491 ∷ 481 ∷ 471 ∷ 461 ∷ 452 ∷ 451 ∷ 441 ∷ 432 ∷ 431 ∷ 411 ∷ 401 ∷ 392 ∷ 391 ∷ 351 ∷ 341 ∷ 162 ∷ 161 ∷ 151 ∷ 131 ∷ 113 ∷ 112 ∷ 111 ∷ 101 ∷ []

abbrev table_numbers : List ℕ
table_numbers = 6 ∷ 5 ∷ 4 ∷ 3 ∷ 2 ∷ 1 ∷ []

abbrev all_tabled : List ℕ → Bool
all_tabled [] = true
all_tabled (c ∷ cs) = among (table_of c) table_numbers && all_tabled cs

no_table-code : (code : ℕ) (cs : List ℕ) → all_tabled cs ≡ true → Other (table_of code) table_numbers → Other code cs
no_table-code code [] v o = tt
no_table-code code (c ∷ cs) v o =
    let h = (and-eq-true_iff (among (table_of c) table_numbers) (all_tabled cs)).0 v in
    (no_table-code code cs h.1 o, λ e. none-among (table_of code) table_numbers o (ap (λ (x : ℕ). among (table_of x) table_numbers) e ∙ h.0))

pub no_table : (p : Pack) (code t i : ℕ) → t ≡ table_of code → Other t table_numbers → None ≡ judged p code i
unfolding judged table_of
no_table p code t i e o =
    past code row_codes (λ c. judged p c i) None None (no_table-code code row_codes refl (subst (λ (x : ℕ). Other x table_numbers) e o)) refl

-- ---- other matches on codes
abbrev pub none_codes : List ℕ
none_codes = 171 ∷ 113 ∷ 112 ∷ 111 ∷ []

pub no_none_code : (p : Pack) (code : ℕ) → Other code none_codes → None ≡ judged_none p code
unfolding judged_none
no_none_code p code r = past code none_codes (judged_none p) None None r refl

abbrev pub plan_codes : List ℕ
plan_codes = 571 ∷ 561 ∷ 551 ∷ 531 ∷ 452 ∷ 451 ∷ 441 ∷ 432 ∷ 431 ∷ 401 ∷ 392 ∷ 391 ∷ 351 ∷ 341 ∷ []

pub no_plan : (code : ℕ) → Other code plan_codes → Plain ≡ plan_of code
unfolding plan_of
no_plan code r = past code plan_codes plan_of Plain Plain r refl
