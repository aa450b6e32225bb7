-- The laws of the reasons of a tile listing with its sibling: each is given exactly when its fault is there and no earlier one is.
use Rattle.std.specs.Prelude.{ℕ, ◌<◌, ◌≡◌, refl, List, [], ◌∷◌, ◌++◌, true, false, ◌↔◌, Ok, Err}
use Rattle.listing.specs.Listing.{layout}
use Rattle.listing.specs.Refusals.{Reason, header_reasons, row_reasons, reasons_in, outcome, number_of, is_accepted}
use Rattle.listing.specs.ReasonLaws.{number_at, numbers_of, answer_by, Free, Given}
use Rattle.listing.specs.RefusalLaws.{reasons}
use Rattle.listing.proofs.FurtherLaws.{further_refused, further_exactly, further_place, further_accepted, further_listing, further_free}
use Rattle.listing.specs.declared.Format.TheVariants.{Metadata}
use Rattle.metadata.specs.Refusals.{metadata_outcome}

abbrev pub all_reasons : List ℕ → List ℕ → List Reason
all_reasons s m = reasons s ++ reasons_in Metadata m

-- they are these eighteen, in this order: each number stands twice, so a reason is told by its place in the list
pub reason_numbers : (s m : List ℕ) → numbers_of (all_reasons s m) ≡ 1 ∷ 2 ∷ 3 ∷ 4 ∷ 5 ∷ 6 ∷ 7 ∷ 8 ∷ 13 ∷ 1 ∷ 2 ∷ 3 ∷ 4 ∷ 5 ∷ 6 ∷ 7 ∷ 8 ∷ 13 ∷ []
unfolding header_reasons row_reasons
reason_numbers s m = refl

module _ (s m : List ℕ) where
  -- "the tile listing's": a refused listing is refused with the same number and place, whatever its sibling
  pub refused-same : is_accepted (outcome s) ≡ false → metadata_outcome s m ≡ outcome s
  unfolding metadata_outcome
  refused-same = further_refused s (reasons_in Metadata m)

  -- a number is given exactly where a reason of that number is there and none before it
  pub refused-exactly : (n : ℕ) → 0 < n → (number_of (metadata_outcome s m) ≡ n) ↔ ((k : ℕ) × Given (all_reasons s m) k × (number_at (all_reasons s m) k ≡ n))
  unfolding metadata_outcome
  refused-exactly = further_exactly s (reasons_in Metadata m)

  -- and then with its place
  pub refused-place : (k : ℕ) → Given (all_reasons s m) k → metadata_outcome s m ≡ answer_by Err (all_reasons s m) k (Ok (layout s))
  unfolding metadata_outcome
  refused-place = further_place s (reasons_in Metadata m)

  -- both are accepted exactly where no reason is there
  pub accepted-exactly : (is_accepted (metadata_outcome s m) ≡ true) ↔ Free (all_reasons s m)
  unfolding metadata_outcome
  accepted-exactly = further_accepted s (reasons_in Metadata m)

  pub accepted_listing : is_accepted (metadata_outcome s m) ≡ true → is_accepted (outcome s) ≡ true
  unfolding metadata_outcome
  accepted_listing = further_listing s (reasons_in Metadata m)

  pub accepted_metadata : is_accepted (metadata_outcome s m) ≡ true → Free (reasons_in Metadata m)
  unfolding metadata_outcome
  accepted_metadata = further_free s (reasons_in Metadata m)
