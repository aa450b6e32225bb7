-- `pack::read::MatrixRowRow::read` meets its contract.
use Rattle.pack.specs.Tables.{matrix_at}
use borrow.Author.Rules.{rules}
use Rattle.pack.proofs.read.MatrixRowRow.read.Goals as goal

pub name_at-requires : goal.name_at-requires
unfolding matrix_at
name_at-requires c = search rules

pub long-requires : goal.long-requires
unfolding matrix_at
long-requires c = search rules

pub long-requires-2 : goal.long-requires-2
unfolding matrix_at
long-requires-2 c = search rules

pub long-requires-3 : goal.long-requires-3
unfolding matrix_at
long-requires-3 c = search rules

pub long-requires-4 : goal.long-requires-4
unfolding matrix_at
long-requires-4 c = search rules

pub long-requires-5 : goal.long-requires-5
unfolding matrix_at
long-requires-5 c = search rules

pub double_at-requires : goal.double_at-requires
unfolding matrix_at
double_at-requires c = search rules

pub double_at-requires-2 : goal.double_at-requires-2
unfolding matrix_at
double_at-requires-2 c = search rules

pub returns : goal.returns
unfolding matrix_at
returns c = simp (c.name_at.ensures, c.long.ensures, c.long-2.ensures, c.long-3.ensures, c.long-4.ensures, c.long-5.ensures, c.double_at.ensures, c.double_at-2.ensures)
