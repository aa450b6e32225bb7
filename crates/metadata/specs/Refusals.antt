-- The reasons for turning away a tile listing s with its sibling m: "the tile listing's, then 1 to 8 and 13 likewise".
use Rattle.std.specs.Prelude.{ℕ, List}
use Rattle.listing.specs.Refusals.{Outcome, reasons_in, outcome_with}
use Rattle.listing.specs.declared.Format.TheVariants.{Metadata}

unfoldable pub metadata_outcome : List ℕ → List ℕ → Outcome
metadata_outcome s m = outcome_with s (reasons_in Metadata m)
