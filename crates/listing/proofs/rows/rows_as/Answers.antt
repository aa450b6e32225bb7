-- `listing::rows/rows_as` meets its contract.
use native.Mathlib.Omega.{arith}
use Rattle.listing.specs.TableLaws.{row_some_in}
use Rattle.listing.proofs.Laws.{below_eight}
use borrow.Author.Rules.{rules}
use Rattle.listing.proofs.rows.rows_as.Goals as goal

pub shape_of-requires : goal.shape_of-requires
shape_of-requires c = search (below_eight, rules)

pub nonzero_div-result : goal.nonzero_div-result
nonzero_div-result c = omega (arith, row_some_in c.args.f c.args.k (search rules) (search rules))
