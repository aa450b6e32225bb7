-- `listing::rows/first_faulty_row` meets its contract.
use Rattle.listing.specs.FaultLaws.{row_fault_lem}
use Rattle.listing.proofs.Laws.{roomy, below_eight, below_last}
use borrow.Author.Rules.{rules}
use Rattle.listing.proofs.rows.first_faulty_row.Goals as goal

pub shape_of-requires : goal.shape_of-requires
shape_of-requires c = search (below_eight, below_last, rules)

pub first_faulty_by-requires : goal.first_faulty_by-requires
first_faulty_by-requires c = search (roomy, rules)

pub returns : goal.returns
returns c = search (row_fault_lem, rules)
