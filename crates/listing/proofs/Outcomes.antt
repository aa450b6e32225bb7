-- The reasons, one after the other, as the code meets them: one whose fault is there is the answer, one whose fault is not is passed.
use Prim.Native.Nat.{ℕ, ◌+◌, ◌<◌, ◌≤◌}
use mathlib.Core.Path.{◌≡◌, refl, sym, ap, ◌∙◌, subst}
use mathlib.Core.List.{List}
use mathlib.Core.Bool.{Bool, true, false, not}
use Rattle.std.specs.Prelude.{Result, Ok, Err, IsErrAnd}
use Rattle.std.proofs.lemmas.Result.{err_from_is_err_and}
use borrow.Author.Rules.{rules}
use borrow.Author.Tests.{lt-ltb, le-ltb, ltb-false, eq-eqb, ne_eqb}
use lib.Dec.{eqb, ltb}
use lib.ListN.{length}
use Rattle.octets.specs.Search.{first, any}
use Rattle.octets.specs.SearchLaws.{finds, misses}
use Rattle.octets.specs.Texts.{outside}
use Rattle.octets.specs.Texts.{Text}
use Rattle.listing.specs.Formats.{longest, table_count, table_number}
use Rattle.listing.specs.Listing.{table_in, tables_in, numbered, rows_as, layout}
use Rattle.listing.specs.TableLaws.{numbered_in}
use Rattle.listing.specs.Refusals.{Reason, Checked, Outcome, refusal, ill, lowest_faulty_row, faulty_table, flagged, header_reasons, row_reasons, reasons_in, decide_by, checked, outcome}
use Rattle.listing.specs.ReasonLaws.{there_at, answer_by, Passed, passed_none, past_1, past_2, past_3, pasts, decide-past, decide_stop, decide-both, decide_fault, decide-clean, good-exactly}
use Rattle.listing.specs.RefusalLaws.{reasons, reasons_in_lem}
use Rattle.listing.specs.FaultLaws.{asked, Found, none-second, second-named, second-there, second-row}
use Rattle.listing.specs.declared.Format.{Format}
use Rattle.listing.specs.declared.Format.TheVariants.{Edition1}
use Rattle.listing.specs.declared.TextFault.TheVariants.{Outside, Either}
use Rattle.listing.specs.declared.Why.{Why}
use Rattle.listing.specs.declared.Why.TheVariants as why
use Rattle.listing.specs.declared.Refusal.{Refusal}

-- what a `?` hands on
pub handed : {A : Type 0} (x : Refusal) (r : Result A Refusal) → IsErrAnd r (λ e. e ≡ x) → r ≡ Err x
handed x r h = let p = err_from_is_err_and r h in p.1 ∙ ap (λ (e : Refusal). Err e) p.2

-- reason k, from 0, of some
pub check_stop : (k : ℕ) (xs : List Reason) (r : Checked) → Passed xs k → there_at xs k ≡ true → r ≡ answer_by Err xs k (Ok tt) → r ≡ checked xs
unfolding checked
check_stop k xs r h e q = q ∙ sym (decide_stop Err xs (Ok tt) k h e)

-- and past the last of them
pub header-past : (f : Format) (s : List ℕ) (r : Checked) → Passed (header_reasons f s) 6 → r ≡ Ok tt → r ≡ checked (header_reasons f s)
unfolding checked header_reasons
header-past f s r h q = q ∙ sym (decide-past Err (header_reasons f s) (Ok tt) 6 h)

pub rows-past : (f : Format) (ts : ℕ → List ℕ) (r : Checked) → Passed (row_reasons f ts) 3 → r ≡ Ok tt → r ≡ checked (row_reasons f ts)
unfolding checked row_reasons
rows-past f ts r h q = q ∙ sym (decide-past Err (row_reasons f ts) (Ok tt) 3 h)

-- ---- a listing: what the check of its header has said
module _ (f : Format) (s : List ℕ) (c r : Checked) (h : c ≡ checked (header_reasons f s)) where
  pub header_fault : (x : Refusal) → c ≡ Err x → IsErrAnd r (λ e. e ≡ x) → r ≡ checked (reasons_in f s)
  unfolding checked
  header_fault x e q =
      handed x r q ∙ sym (decide-both Err (header_reasons f s) (row_reasons f (table_in f s)) (Ok tt) ∙ decide_fault Err (header_reasons f s) (decide_by Err (row_reasons f (table_in f s)) (Ok tt)) x (sym h ∙ e))

  -- and then that of its rows
  pub header-clean : (ts : List (List ℕ)) → c ≡ Ok tt → ts ≡ tables_in f s → r ≡ checked (row_reasons f (numbered ts)) → r ≡ checked (reasons_in f s)
  unfolding checked
  header-clean ts e d q =
      q ∙ ap (λ (u : ℕ → List ℕ). decide_by Err (row_reasons f u) (Ok tt)) (ap numbered d ∙ numbered_in f s)
      ∙ sym (decide-both Err (header_reasons f s) (row_reasons f (table_in f s)) (Ok tt) ∙ decide-clean Err (header_reasons f s) (decide_by Err (row_reasons f (table_in f s)) (Ok tt)) (sym h ∙ e))

-- where the header is right, a listing is no longer than its format has it
pub header-longest : (f : Format) (s : List ℕ) (c : Checked) → c ≡ checked (header_reasons f s) → c ≡ Ok tt → length s ≤ longest f
unfolding checked header_reasons
header-longest f s c h e = ltb-false (longest f) (length s) ((good-exactly Err is_clean (λ e. refl) (header_reasons f s) (Ok tt) refl).0 (ap is_clean (sym h ∙ e)) 1)
  where
    is_clean : Checked → Bool
    is_clean (Ok tt) = true
    is_clean (Err e) = false

-- ---- edition 1: the outcome, by what was said
module _ (s : List ℕ) (c : Checked) (r : Outcome) (h : c ≡ checked (reasons_in Edition1 s)) where
  said : checked (reasons s) ≡ c
  said = ap checked (reasons_in_lem s) ∙ sym h

  pub accept_fault : (x : Refusal) → c ≡ Err x → IsErrAnd r (λ e. e ≡ x) → r ≡ outcome s
  unfolding outcome
  accept_fault x e q = handed x r q ∙ sym (decide_fault Err (reasons s) (Ok (layout s)) x (said ∙ e))

  pub accept_clean : c ≡ Ok tt → r ≡ Ok (layout s) → r ≡ outcome s
  unfolding outcome
  accept_clean e q = q ∙ sym (decide-clean Err (reasons s) (Ok (layout s)) (said ∙ e))

-- the place, by numbers that equal its own
pub faulted : (x : Refusal) (w : Why) (t i u j : ℕ) → x ≡ refusal w t i → t ≡ u → i ≡ j → ◌≡◌ {A = Checked} (Err x) (Err (refusal w u j))
faulted x w t i u j e f g = cc

-- what a test says of numbers that equal its own
module _ (a b v w : ℕ) (e : v ≡ a) (f : w ≡ b) where
  pub differs : (v ≡ w → ⊥) → not (eqb a b) ≡ true
  differs n = ap not (ne_eqb a b (λ q. n (e ∙ q ∙ sym f)))

  pub agrees : v ≡ w → not (eqb a b) ≡ false
  agrees q = ap not (eq-eqb a b (sym e ∙ q ∙ f))

module _ (a b v : ℕ) where
  pub differs-from : v ≡ a → (v ≡ b → ⊥) → not (eqb a b) ≡ true
  differs-from e n = ap not (ne_eqb a b (λ q. n (e ∙ q)))

  pub agrees_with : v ≡ a → v ≡ b → not (eqb a b) ≡ false
  agrees_with e q = ap not (eq-eqb a b (sym e ∙ q))

  pub under : v ≡ b → a < v → ltb a b ≡ true
  under e l = lt-ltb a b (subst (λ (n : ℕ). a < n) e l)

  pub no_under : v ≡ b → v ≤ a → ltb a b ≡ false
  no_under e l = le-ltb a b (subst (λ (n : ℕ). n ≤ a) e l)

  pub beyond : v ≡ a → v < b → ltb a b ≡ true
  beyond e l = lt-ltb a b (subst (λ (n : ℕ). n < b) e l)

  pub no_beyond : v ≡ a → b ≤ v → ltb a b ≡ false
  no_beyond e l = le-ltb a b (subst (λ (n : ℕ). b ≤ n) e l)

-- a number that the code has found among the tables, or the one past the last
module _ (f : Format) (p : ℕ → Bool) (k m : ℕ) (e : m ≡ table_count f) (h : k ≡ first p (table_count f + 1)) where
  pub table-finds : k < m + 1 → any p (table_count f + 1) ≡ true
  table-finds l = finds p (table_count f + 1) k h (subst (λ (n : ℕ). k < n + 1) e l)

  pub table-misses : m + 1 ≤ k → any p (table_count f + 1) ≡ false
  table-misses l = misses p (table_count f + 1) k h (subst (λ (n : ℕ). n + 1 ≤ k) e l)

pub table-named : (f : Format) (p : ℕ → Bool) (k t : ℕ) → k ≡ first p (table_count f + 1) → t ≡ table_number f k → t ≡ table_number f (first p (table_count f + 1))
table-named f p k t h q = q ∙ ap (table_number f) h

pub ruleset headers = (pasts, faulted, under, no_under, beyond, no_beyond, differs, agrees, differs-from, agrees_with, table-finds, table-misses, table-named, rules)

-- of reason 7, by the place that the code has found
module _ (f : Format) (fault : Bool → Text → Bool) (ts : ℕ → List ℕ) (k i m : ℕ) (h : Found f fault ts k i) (d : m ≡ table_count f) where
  pub found-there : k < m → any (faulty_table f fault ts) (table_count f) ≡ true
  found-there l = finds (faulty_table f fault ts) (table_count f) k h.table (subst (λ (n : ℕ). k < n) d l)

  pub found_none : m ≤ k → any (faulty_table f fault ts) (table_count f) ≡ false
  found_none l = misses (faulty_table f fault ts) (table_count f) k h.table (subst (λ (n : ℕ). n ≤ k) d l)

  pub found-row : k < m → i ≡ lowest_faulty_row f fault ts (first (faulty_table f fault ts) (table_count f))
  found-row l = h.row (subst (λ (n : ℕ). k < n) d l) ∙ ap (lowest_faulty_row f fault ts) h.table

pub found-table : (f : Format) (fault : Bool → Text → Bool) (ts : ℕ → List ℕ) (k i : ℕ) → Found f fault ts k i → table_number f k ≡ table_number f (first (faulty_table f fault ts) (table_count f))
found-table f fault ts k i h = ap (table_number f) h.table

-- of reason 8, by the table that the code has cut
module _ (f : Format) (t u : List ℕ) (i : ℕ) (e : t ≡ u) (g : i ≡ first (flagged f t) (rows_as f 2 t)) where
  pub flags-at : i ≡ first (flagged f u) (rows_as f 2 u)
  flags-at = g ∙ ap (λ (x : List ℕ). first (flagged f x) (rows_as f 2 x)) e

  pub flags_find : (n : ℕ) → n ≡ rows_as f 2 t → i < n → any (flagged f u) (rows_as f 2 u) ≡ true
  flags_find n q l = finds (flagged f u) (rows_as f 2 u) i flags-at (subst (λ (m : ℕ). i < m) (q ∙ ap (rows_as f 2) e) l)

  pub flags-miss : (n : ℕ) → n ≡ rows_as f 2 t → n ≤ i → any (flagged f u) (rows_as f 2 u) ≡ false
  flags-miss n q l = misses (flagged f u) (rows_as f 2 u) i flags-at (subst (λ (m : ℕ). m ≤ i) (q ∙ ap (rows_as f 2) e) l)

-- of reason 13, which is looked for together with 7
module _ (f : Format) (ts : ℕ → List ℕ) (n i k j last : ℕ) (d : last ≡ table_count f) (h : Found f (asked Either (ts (table_count f))) ts n i) (o : Found f (asked Outside (ts (table_count f))) ts k j) (m : last ≤ k)
    (w : any (flagged f (ts 2)) (rows_as f 2 (ts 2)) ≡ false) where
  before_13 : Passed (row_reasons f ts) 2
  unfolding row_reasons
  before_13 = past_2 (row_reasons f ts) (past_1 (row_reasons f ts) (passed_none (row_reasons f ts)) (found_none f (asked Outside (ts (table_count f))) ts k j last o d m)) w

  pub ill_stop : (x : Refusal) → n < last → x ≡ refusal why.IllFormed (table_number f n) i → Err x ≡ checked (row_reasons f ts)
  unfolding row_reasons
  ill_stop x l e =
      check_stop 2 (row_reasons f ts) (Err x) before_13 (second-there f (outside (length (ts (table_count f)))) (ill (ts (table_count f))) ts n i k j last d h o m l)
      (faulted x why.IllFormed (table_number f n) i _ _ e (second-named f (outside (length (ts (table_count f)))) (ill (ts (table_count f))) ts n i k j last d h o m) (second-row f (outside (length (ts (table_count f)))) (ill (ts (table_count f))) ts n i k j last d h o m l))

  pub ill-past : (r : Checked) → last ≤ n → r ≡ Ok tt → r ≡ checked (row_reasons f ts)
  unfolding row_reasons
  ill-past r l e = rows-past f ts r (past_3 (row_reasons f ts) before_13 (none-second f (outside (length (ts (table_count f)))) (ill (ts (table_count f))) ts n i last d h l)) e

pub ruleset bodies = (pasts, faulted, found-there, found_none, found-table, found-row, flags-at, flags_find, flags-miss, rules)
