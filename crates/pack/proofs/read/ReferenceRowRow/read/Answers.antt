-- `pack::read::ReferenceRowRow::read` meets its contract.
use Rattle.pack.specs.Tables.{reference_at}
use borrow.Author.Rules.{rules}
use Rattle.pack.proofs.read.ReferenceRowRow.read.Goals as goal

pub long-requires : goal.long-requires
unfolding reference_at
long-requires c = search rules

pub long-requires-2 : goal.long-requires-2
unfolding reference_at
long-requires-2 c = search rules

pub name_at-requires : goal.name_at-requires
unfolding reference_at
name_at-requires c = search rules

pub name_at-requires-2 : goal.name_at-requires-2
unfolding reference_at
name_at-requires-2 c = search rules

pub returns : goal.returns
unfolding reference_at
returns c = cc
