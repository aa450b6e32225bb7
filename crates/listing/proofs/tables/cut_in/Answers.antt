-- `listing::tables::cut_in` meets its contract.
use mathlib.Core.List.{[], ◌∷◌}
use Rattle.listing.specs.Listing.{tables_in}
use Rattle.listing.proofs.tables.cut_in.Goals as goal

pub returns : goal.returns
unfolding tables_in
returns c = λ i. c.table_in.ensures i
    ∷ c.table_in-2.ensures i
    ∷ c.table_in-3.ensures i
    ∷ c.table_in-4.ensures i
    ∷ c.table_in-5.ensures i
    ∷ c.table_in-6.ensures i
    ∷ c.table_in-7.ensures i
    ∷ []
