-- `listing::shapes::shape_of` meets its contract.
use mathlib.Core.Path.{sym, ap, ◌∙◌}
use Rattle.listing.specs.Formats.{row, most, text_base, text_count, null_count, metadata_row, metadata_most, metadata_base, metadata_texts, metadata_null_from, metadata_null_end, shape_in}
use Rattle.listing.specs.declared.Format.{Format}
use Rattle.listing.specs.declared.Format.TheVariants.{Edition1, Metadata}
use Rattle.listing.proofs.Laws.{shape-at, shape_of_lem}
use Rattle.listing.proofs.shapes.shape_of.Goals as goal

pub returns-in-Edition1 : goal.returns-in-Edition1
unfolding row most text_base text_count null_count
returns-in-Edition1 c = shape_of_lem _ _ _ (shape-at (shape_in Edition1) _ c.args.k c.requires ∙ ap (λ (f : Format). shape_in f c.args.k) (sym c.in-Edition1.is))

pub returns-in-Metadata : goal.returns-in-Metadata
unfolding metadata_row metadata_most metadata_base metadata_texts metadata_null_from metadata_null_end
returns-in-Metadata c = shape_of_lem _ _ _ (shape-at (shape_in Metadata) _ c.args.k c.requires ∙ ap (λ (f : Format). shape_in f c.args.k) (sym c.in-Metadata.is))
