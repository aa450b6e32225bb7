-- "Every octet string is judged, or refused under one numbered reason": the reasons 1 to 8 and 13, their number and place.
use Prim.Native.Nat.{ℕ, zero, suc, ◌+◌, ◌<◌, ◌≤◌}
use Rattle.std.specs.Prelude.{◌≡◌, Bool, true, false, ◌&&◌, List, [], ◌∷◌, ◌⊎◌, ◌↔◌, ltb, length, Ok}
use Rattle.std.proofs.Math.Path.{refl}
use Rattle.std.proofs.Common.{sym, ap, ◌∙◌, subst, inl, inr}
use Rattle.std.proofs.Math.Bool.{not, and-eq-true_iff}
use Rattle.std.proofs.lemmas.Bool.{false≢true}
use Rattle.std.proofs.Math.Nat.{div-le_self}
use native.Mathlib.Omega.{arith}
use borrow.Author.Tests.{ltb-true, ltb-false, not-false}
use Rattle.octets.specs.Search.{first, any}
use Rattle.octets.proofs.SearchLaws.{first-lowest, none-at}
use Rattle.octets.specs.Texts.{outside}
use Rattle.octets.specs.Texts.{Text}
use Rattle.listing.specs.Formats.{longest, table_count, table_number, row_in}
use Rattle.listing.specs.Listing.{table_in, rows_as, layout}
use Rattle.listing.specs.Refusals.{Reason, over, moved, ill, faulty_row, lowest_faulty_row, faulty_table, flagged, header_reasons, row_reasons, reasons_in, outcome, number_of, table_of, row_of, is_accepted, Outcome}
use Rattle.listing.specs.TableLaws.{tables-few, longest-short, short_in}
use Rattle.listing.specs.ReasonLaws.{there_at, number_at, Given, given-one, given_or_none, there-within}
use Rattle.listing.specs.RefusalLaws.{reasons, reasons_in_lem, readers_own, answer_at, refused-exactly, refused-place, accepted-exactly, none-numbered, accepted-is}
use Rattle.listing.specs.declared.Format.{Format}
use Rattle.listing.specs.declared.Format.TheVariants.{Edition1, Metadata}
use Rattle.findings.specs.Demands.{AllFit}

-- numbers that are written out fit their words: one computed test
abbrev all_small : List ℕ → Bool
all_small [] = true
all_small (n ∷ ns) = ltb n 4294967296 && all_small ns

pub written-fit : (ns : List ℕ) → all_small ns ≡ true → AllFit ns
written-fit [] e = tt
written-fit (n ∷ ns) e = let q = (and-eq-true_iff (ltb n 4294967296) (all_small ns)).0 e in (ltb-true n 4294967296 q.0, written-fit ns q.1)

module _ (s : List ℕ) where
  -- a reason that is given is one of the nine
  given_below : (k : ℕ) → Given (reasons s) k → k < 9
  unfolding header_reasons row_reasons
  given_below k g = there-within (reasons s) k g.there

  pub judged_or_refused : (is_accepted (outcome s) ≡ true) ⊎ ((k : ℕ) × (k < 9) × Given (reasons s) k)
  judged_or_refused = by (given_or_none (reasons s))
    where
      by : ((k : ℕ) × Given (reasons s) k) ⊎ ((i : ℕ) → there_at (reasons s) i ≡ false) → (is_accepted (outcome s) ≡ true) ⊎ ((k : ℕ) × (k < 9) × Given (reasons s) k)
      by (inl g) = inr (g.0, given_below g.0 g.1, g.1)
      by (inr f) = inl ((accepted-exactly s).1 f)

  -- "under one"
  pub refused-one : (j k : ℕ) → Given (reasons s) j → Given (reasons s) k → j ≡ k
  refused-one j k g h = given-one (reasons s) j k g h

  -- "an accepted call has number 0", and no other
  pub accepted-number : (number_of (outcome s) ≡ 0) ↔ (is_accepted (outcome s) ≡ true)
  accepted-number = (none-numbered s, λ a. ap number_of (accepted-is s a))

  own_at : (k : ℕ) → k < 9 → readers_own (number_at (reasons s) k) ≡ true
  unfolding header_reasons row_reasons first any
  own_at k l = not-false _ (none-at (λ k. not (readers_own (number_at (reasons s) k))) 9 refl k l)

  -- its number is never another's, as 9 and 10 are
  pub number-own : readers_own (number_of (outcome s)) ≡ true
  number-own = by judged_or_refused
    where
      by : (is_accepted (outcome s) ≡ true) ⊎ ((k : ℕ) × (k < 9) × Given (reasons s) k) → readers_own (number_of (outcome s)) ≡ true
      by (inl a) = ap readers_own (accepted-number.1 a)
      by (inr g) = ap readers_own ((refused-exactly s g.0 g.1).1 g.2) ∙ own_at g.0 g.1

  pub number-other : (n : ℕ) → readers_own n ≡ false → number_of (outcome s) ≡ n → ⊥
  number-other n e h = false≢true (sym e ∙ ap readers_own (sym h) ∙ number-own)

-- ---- number, table and row fit their words, of a listing of any format
abbrev pub place_of : Outcome → List ℕ
place_of o = number_of o ∷ table_of o ∷ row_of o ∷ []

number_fits : (f : Format) (k : ℕ) → k ≤ 8 → table_number f k < 4294967296
number_fits Edition1 k l = omega arith
number_fits Metadata k l = omega arith

module _ (f : Format) (s : List ℕ) where
  rows_short : (k : ℕ) → rows_as f k (table_in f s k) ≤ length s
  unfolding rows_as
  rows_short k = omega (arith, div-le_self (length (table_in f s k)) (row_in f k), short_in f s k)

  faulty_row-short : (fault : Bool → Text → Bool) (k : ℕ) → lowest_faulty_row f fault (table_in f s) k ≤ length s
  unfolding lowest_faulty_row
  faulty_row-short fault k = omega (arith, (first-lowest (faulty_row f fault k (table_in f s k)) (rows_as f k (table_in f s k))).most, rows_short k)

  -- past reason 2 the listing is short
  short : (k : ℕ) → 1 < k → Given (reasons_in f s) k → length s < 4294967296
  unfolding header_reasons
  short k l g = omega (arith, ltb-false (longest f) (length s) (g.passed.none 1 l), longest-short f)

  -- a table that was found, and a reason of texts, with its place
  found-fits : (p : ℕ → Bool) (n : ℕ) → n ≤ 8 → table_number f (first p n) < 4294967296
  found-fits p n l = number_fits f (first p n) (omega (arith, (first-lowest p n).most))

  text_fits : (n : ℕ) (fault : Bool → Text → Bool) (k : ℕ) → n < 4294967296 → 1 < k → Given (reasons_in f s) k
      → AllFit (n ∷ table_number f (first (faulty_table f fault (table_in f s)) (table_count f)) ∷ lowest_faulty_row f fault (table_in f s) (first (faulty_table f fault (table_in f s)) (table_count f)) ∷ [])
  text_fits n fault k h l g =
      (h, (found-fits (faulty_table f fault (table_in f s)) (table_count f) (omega (arith, tables-few f)), (omega (arith, faulty_row-short fault (first (faulty_table f fault (table_in f s)) (table_count f)), short k l g), tt)))

  pub given-fits : (k : ℕ) (o : Outcome) → Given (reasons_in f s) k → AllFit (place_of (answer_at (reasons_in f s) k o))
  unfolding header_reasons row_reasons
  given-fits zero o g = written-fit (1 ∷ 0 ∷ 0 ∷ []) refl
  given-fits (suc zero) o g = written-fit (2 ∷ 0 ∷ 0 ∷ []) refl
  given-fits (suc (suc zero)) o g = written-fit (3 ∷ 0 ∷ 0 ∷ []) refl
  given-fits (suc (suc (suc zero))) o g = written-fit (4 ∷ 0 ∷ 0 ∷ []) refl
  given-fits (suc (suc (suc (suc zero)))) o g = (omega arith, (found-fits (over f s) (table_count f + 1) (omega (arith, tables-few f)), written-fit (0 ∷ []) refl))
  given-fits (suc (suc (suc (suc (suc zero))))) o g = (omega arith, (found-fits (moved f s) (table_count f + 1) (omega (arith, tables-few f)), written-fit (0 ∷ []) refl))
  given-fits (suc (suc (suc (suc (suc (suc zero)))))) o g = text_fits 7 (outside (length (table_in f s (table_count f)))) 6 (omega arith) (omega arith) g
  given-fits (suc (suc (suc (suc (suc (suc (suc zero))))))) o g =
      (omega arith, (number_fits f 2 (omega arith), (omega (arith, (first-lowest (flagged f (table_in f s 2)) (rows_as f 2 (table_in f s 2))).most, rows_short 2, short 7 (omega arith) g), tt)))
  given-fits (suc (suc (suc (suc (suc (suc (suc (suc zero)))))))) o g = text_fits 13 (ill (table_in f s (table_count f))) 8 (omega arith) (omega arith) g
  given-fits (suc (suc (suc (suc (suc (suc (suc (suc (suc k))))))))) o g = absurd (false≢true g.there)

-- of one of edition 1
module _ (s : List ℕ) where
  given_fits_1 : (k : ℕ) → Given (reasons s) k → AllFit (place_of (answer_at (reasons s) k (Ok (layout s))))
  given_fits_1 = subst (λ (xs : List Reason). (k : ℕ) → Given xs k → AllFit (place_of (answer_at xs k (Ok (layout s))))) (sym (reasons_in_lem s)) (λ k g. given-fits Edition1 s k (Ok (layout s)) g)

  pub place-fits : AllFit (number_of (outcome s) ∷ table_of (outcome s) ∷ row_of (outcome s) ∷ [])
  place-fits = by (judged_or_refused s)
    where
      by : (is_accepted (outcome s) ≡ true) ⊎ ((k : ℕ) × (k < 9) × Given (reasons s) k) → AllFit (place_of (outcome s))
      by (inl a) = rw (accepted-is s a) (written-fit (0 ∷ 0 ∷ 0 ∷ []) refl)
      by (inr g) = rw (refused-place s g.0 g.2) (given_fits_1 g.0 g.2)
