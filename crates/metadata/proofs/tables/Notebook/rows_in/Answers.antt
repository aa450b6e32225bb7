-- `metadata::tables::Notebook::rows_in` meets its contract.
use mathlib.Core.List.{map}
use Rattle.metadata.specs.Rows.{rows_of}
use Rattle.metadata.specs.Tables.{notebook_in}
use Rattle.metadata.proofs.Laws.{rows_other}
use native.Mathlib.Omega.{arith}
use Rattle.metadata.proofs.tables.Notebook.rows_in.Goals as goal

pub returns-in-11 : goal.returns-in-11
unfolding rows_of
returns-in-11 c = rw (c.in-11.is, c.slice_of.ensures)

pub returns-in-12 : goal.returns-in-12
unfolding rows_of
returns-in-12 c = rw (c.in-12.is, c.slice_of-in-12.ensures)

pub returns-in_default : goal.returns-in_default
unfolding rows_of
returns-in_default c = rows_other (notebook_in (map (λ x. x.now) c.args.self.slices)) c.args.table (omega arith) (omega arith)
