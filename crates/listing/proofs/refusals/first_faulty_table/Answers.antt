-- `listing::refusals::first_faulty_table` meets its contract.
use native.Mathlib.Omega.{arith}
use Rattle.listing.proofs.Laws.{first-table, first-some, faulty_table-none}
use borrow.Author.Rules.{rules}
use Rattle.listing.proofs.refusals.first_faulty_table.Goals as goal

pub returns : goal.returns
returns c = (
  first-table _ (faulty_table-none _ _ _) _ _ _ _ c.table_count.ensures.0 c.first.ensures (λ k b s l h. search rules),
  first-some _ _ _ c.first.ensures (omega arith),
)
