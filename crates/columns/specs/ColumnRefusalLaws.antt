-- The laws of the reasons of columns: each is given exactly when its fault is there and no earlier one is, and a refused listing is refused as by itself.
use Rattle.std.specs.Prelude.{ℕ, ◌*◌, ◌^◌, ◌<◌, ◌≤◌, ◌≡◌, List, [], ◌∷◌, ◌++◌, Bool, true, false, ◌↔◌, length, Ok, Err}
use Rattle.std.proofs.Math.Path.{refl}
use Rattle.std.proofs.Common.{◌∙◌, le-ltb}
use Rattle.octets.specs.Octets.{le64}
use Rattle.octets.specs.Texts.{outside}
use Rattle.listing.specs.Listing.{table, rows, layout}
use Rattle.listing.specs.Refusals.{Reason, Checked, number, header_reasons, row_reasons, decide_by, decide, checked, outcome, number_of, is_accepted}
use Rattle.listing.specs.ReasonLaws.{number_at, numbers_of, answer_by, Free, Given, free-left, free-right, decide-both, decide_stop, decide-none, decide_fault, number-exactly, good-exactly}
use Rattle.listing.specs.RefusalLaws.{reasons, accepted-exactly}
use Rattle.listing.proofs.FurtherLaws.{listing_said, further_refused, further_rest, further_exactly, further_place, further_accepted, further_listing}
use Rattle.listing.specs.declared.Refusal.{Refusal}
use Rattle.columns.specs.Refusals.{is_short, short_reason, entry_text, faulty_entry, entry_reasons, column_reasons, column_outcome, fill_reasons, fill_answer}

-- ---- the listing first
module _ (s : List ℕ) where
  module _ (cs : List (List ℕ)) where
    -- "the listing's to 13": a refused listing is refused with the same number and place
    pub refused-same : is_accepted (outcome s) ≡ false → column_outcome s cs ≡ outcome s
    unfolding column_outcome
    refused-same = further_refused s (column_reasons (table s 5) (table s 7) cs)

    pub fill_same : (e : Refusal) → outcome s ≡ Err e → fill_answer s cs ≡ Err e
    unfolding checked fill_answer fill_reasons
    fill_same x e =
        decide-both Err (reasons s) (short_reason (rows 5 (table s 5)) cs ∷ []) (Ok tt)
        ∙ decide_fault Err (reasons s) (decide_by Err (short_reason (rows 5 (table s 5)) cs ∷ []) (Ok tt)) x (listing_said s x e)

    -- of an accepted listing the columns decide
    pub column-rest : is_accepted (outcome s) ≡ true → column_outcome s cs ≡ decide (column_reasons (table s 5) (table s 7) cs) (Ok (layout s))
    unfolding column_outcome
    column-rest = further_rest s (column_reasons (table s 5) (table s 7) cs)

    pub fill_rest : is_accepted (outcome s) ≡ true → fill_answer s cs ≡ checked (short_reason (rows 5 (table s 5)) cs ∷ [])
    unfolding checked fill_answer fill_reasons
    fill_rest a =
        decide-both Err (reasons s) (short_reason (rows 5 (table s 5)) cs ∷ []) (Ok tt)
        ∙ decide-none Err (reasons s) (decide_by Err (short_reason (rows 5 (table s 5)) cs ∷ []) (Ok tt)) ((accepted-exactly s).0 a)

-- ---- each reason in its order; 7 and 13 stand twice, so a reason is told by its place in the list
-- "the listing's to 13; 14 ..; then, not in the fill, 7 and 13 for a column entry"
abbrev pub all_reasons : List ℕ → List (List ℕ) → List Reason
all_reasons s cs = reasons s ++ column_reasons (table s 5) (table s 7) cs

pub reason_numbers : (s : List ℕ) (cs : List (List ℕ)) → numbers_of (all_reasons s cs) ≡ 1 ∷ 2 ∷ 3 ∷ 4 ∷ 5 ∷ 6 ∷ 7 ∷ 8 ∷ 13 ∷ 14 ∷ 7 ∷ 13 ∷ []
unfolding header_reasons row_reasons column_reasons entry_reasons
reason_numbers s cs = refl

pub fill_numbers : (s : List ℕ) (cs : List (List ℕ)) → numbers_of (fill_reasons s cs) ≡ 1 ∷ 2 ∷ 3 ∷ 4 ∷ 5 ∷ 6 ∷ 7 ∷ 8 ∷ 13 ∷ 14 ∷ []
unfolding header_reasons row_reasons fill_reasons
fill_numbers s cs = refl

-- what a check says, as numbers: 0 where nothing is at fault
abbrev pub number_said : Checked → ℕ
number_said (Ok tt) = 0
number_said (Err e) = number e.why

abbrev pub is_clean : Checked → Bool
is_clean (Ok tt) = true
is_clean (Err e) = false

module _ (s : List ℕ) (cs : List (List ℕ)) where
  -- a number is given exactly where a reason of that number is there and none before it
  pub refused-exactly : (n : ℕ) → 0 < n → (number_of (column_outcome s cs) ≡ n) ↔ ((k : ℕ) × Given (all_reasons s cs) k × (number_at (all_reasons s cs) k ≡ n))
  unfolding column_outcome
  refused-exactly = further_exactly s (column_reasons (table s 5) (table s 7) cs)

  -- and then with its place
  pub refused-place : (k : ℕ) → Given (all_reasons s cs) k → column_outcome s cs ≡ answer_by Err (all_reasons s cs) k (Ok (layout s))
  unfolding column_outcome
  refused-place = further_place s (column_reasons (table s 5) (table s 7) cs)

  -- columns are accepted exactly where no reason is there
  pub accepted-columns : (is_accepted (column_outcome s cs) ≡ true) ↔ Free (all_reasons s cs)
  unfolding column_outcome
  accepted-columns = further_accepted s (column_reasons (table s 5) (table s 7) cs)

  -- they belong to an accepted listing
  pub accepted_listing : is_accepted (column_outcome s cs) ≡ true → is_accepted (outcome s) ≡ true
  unfolding column_outcome
  accepted_listing = further_listing s (column_reasons (table s 5) (table s 7) cs)

  -- and none of them is short
  pub accepted-long : is_accepted (column_outcome s cs) ≡ true → is_short (rows 5 (table s 5)) cs ≡ false
  unfolding column_reasons
  accepted-long a = free-right (reasons s) (column_reasons (table s 5) (table s 7) cs) (accepted-columns.0 a) 0

  -- the fill's answer, likewise: "1 to 8, 13, 14 only"
  pub fill_exactly : (n : ℕ) → 0 < n → (number_said (fill_answer s cs) ≡ n) ↔ ((k : ℕ) × Given (fill_reasons s cs) k × (number_at (fill_reasons s cs) k ≡ n))
  unfolding checked fill_answer
  fill_exactly n l = number-exactly Err number_said (λ e. refl) (fill_reasons s cs) (Ok tt) n refl l

  pub fill_place : (k : ℕ) → Given (fill_reasons s cs) k → fill_answer s cs ≡ answer_by Err (fill_reasons s cs) k (Ok tt)
  unfolding checked fill_answer
  fill_place k g = decide_stop Err (fill_reasons s cs) (Ok tt) k g.passed g.there

  pub fill_clean : (is_clean (fill_answer s cs) ≡ true) ↔ Free (fill_reasons s cs)
  unfolding checked fill_answer
  fill_clean = good-exactly Err is_clean (λ e. refl) (fill_reasons s cs) (Ok tt) refl

  pub fill_listing : is_clean (fill_answer s cs) ≡ true → is_accepted (outcome s) ≡ true
  unfolding fill_reasons
  fill_listing a = (accepted-exactly s).1 (free-left (reasons s) (short_reason (rows 5 (table s 5)) cs ∷ []) (fill_clean.0 a))

  pub fill_long : is_clean (fill_answer s cs) ≡ true → is_short (rows 5 (table s 5)) cs ≡ false
  unfolding fill_reasons
  fill_long a = free-right (reasons s) (short_reason (rows 5 (table s 5)) cs ∷ []) (fill_clean.0 a) 0

-- "a negative one spells no text": it is refused under 7
pub negative-outside : (names c : List ℕ) (i : ℕ) → 2 ^ 63 ≤ le64 c (8 * i) → faulty_entry (outside (length names)) c i ≡ true
unfolding faulty_entry entry_text
negative-outside names c i l = simp (le-ltb (le64 c (8 * i)) (2 ^ 63) l)
