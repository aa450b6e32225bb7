-- `pack::read/extent_at` meets its contract.
use Rattle.pack.specs.Tables.{extent_at}
use borrow.Author.Rules.{rules}
use Rattle.pack.proofs.read.extent_at.Goals as goal

pub double_at-requires : goal.double_at-requires
unfolding extent_at
double_at-requires c = search rules

pub double_at-requires-2 : goal.double_at-requires-2
unfolding extent_at
double_at-requires-2 c = search rules

pub double_at-requires-3 : goal.double_at-requires-3
unfolding extent_at
double_at-requires-3 c = search rules

pub double_at-requires-4 : goal.double_at-requires-4
unfolding extent_at
double_at-requires-4 c = search rules

pub returns : goal.returns
unfolding extent_at
returns c = simp (c.double_at.ensures, c.double_at-2.ensures, c.double_at-3.ensures, c.double_at-4.ensures)
