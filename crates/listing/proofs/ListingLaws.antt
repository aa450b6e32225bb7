-- What an accepted listing of edition 1 is, row for row.
use Rattle.std.specs.Prelude.{ℕ, ◌<◌, ◌≤◌, ◌≡◌, List, true, false, length}
use Rattle.std.proofs.Common.{subst, arith}
use Rattle.octets.specs.Texts.{outside}
use Rattle.listing.specs.Listing.{table, rows}
use Rattle.listing.specs.Refusals.{Reason, ill, faulty_row, bad_contents, reasons_in, outcome, is_accepted}
use Rattle.listing.specs.ReasonLaws.{Free}
use Rattle.listing.specs.RefusalLaws.{reasons_in_lem, accepted-exactly}
use Rattle.listing.specs.FormatLaws.{no_bad_row_in, no_ill_row_in, none-flagged}
use Rattle.listing.specs.declared.Format.TheVariants.{Edition1}

module _ (s : List ℕ) (a : is_accepted (outcome s) ≡ true) where
  free : Free (reasons_in Edition1 s)
  free = subst (λ (xs : List Reason). Free xs) (reasons_in_lem s) ((accepted-exactly s).0 a)

  -- no row has a text outside the names, or one that is not well-formed, and no flag of the contents is at fault
  pub no_bad_row : (k i : ℕ) → 1 ≤ k → k ≤ 6 → i < rows k (table s k) → faulty_row Edition1 (outside (length (table s 7))) k (table s k) i ≡ false
  unfolding rows table
  no_bad_row k i l h = no_bad_row_in Edition1 s free k i l (omega arith)

  pub no_ill_row : (k i : ℕ) → 1 ≤ k → k ≤ 6 → i < rows k (table s k) → faulty_row Edition1 (ill (table s 7)) k (table s k) i ≡ false
  unfolding rows table
  no_ill_row k i l h = no_ill_row_in Edition1 s free k i l (omega arith)

  pub no_bad_contents : (i : ℕ) → i < rows 2 (table s 2) → bad_contents (table s 2) i ≡ false
  unfolding rows table
  no_bad_contents = none-flagged Edition1 s free
