-- `pack::tables::with_tiles` meets its contract.
use Rattle.std.specs.Prelude.{[], ◌∷◌}
use Rattle.pack.specs.Tables.{with_tiles}
use Rattle.pack.proofs.tables.with_tiles.Goals as goal

pub returns-clause-slices : goal.returns-clause-slices
unfolding with_tiles
returns-clause-slices c = λ i.
    c.slice_of.ensures i
    ∷ c.slice_of-2.ensures i
    ∷ c.slice_of-3.ensures i
    ∷ c.slice_of-4.ensures i
    ∷ c.slice_of-5.ensures i
    ∷ c.slice_of-6.ensures i
    ∷ c.slice_of-7.ensures i
    ∷ c.slice_of-8.ensures i
    ∷ c.slice_of-9.ensures i
    ∷ c.slice_of-10.ensures i
    ∷ []
