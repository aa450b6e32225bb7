-- `metadata::tables::cut` meets its contract.
use mathlib.Core.List.{[], ◌∷◌}
use Rattle.metadata.specs.Tables.{tables_for}
use Rattle.metadata.proofs.tables.cut.Goals as goal

pub returns : goal.returns
unfolding tables_for
returns c = λ i. c.table_of.ensures i
    ∷ c.table_of-2.ensures i
    ∷ c.table_in.ensures i
    ∷ c.table_in-2.ensures i
    ∷ c.table_in-3.ensures i
    ∷ []
