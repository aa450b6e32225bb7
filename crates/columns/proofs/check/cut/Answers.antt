-- `columns::check::cut` meets its contract.
use Rattle.octets.specs.Slices.{nth}
use Rattle.columns.proofs.Laws.{octets-fit, cut_columns}
use borrow.Author.Rules.{rules}
use Rattle.columns.proofs.check.cut.Goals as goal

pub overflow_mul-octets : goal.overflow_mul-octets
overflow_mul-octets c = search (octets-fit, rules)

pub returns-clause-slices : goal.returns-clause-slices
unfolding nth
returns-clause-slices c = search (cut_columns, rules)
