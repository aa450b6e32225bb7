-- `pack::read::SetRowRow::read` meets its contract.
use Rattle.pack.specs.Tables.{set_at}
use borrow.Author.Rules.{rules}
use Rattle.pack.proofs.read.SetRowRow.read.Goals as goal

pub name_at-requires : goal.name_at-requires
unfolding set_at
name_at-requires c = search rules

pub long-requires : goal.long-requires
unfolding set_at
long-requires c = search rules

pub extent_at-requires : goal.extent_at-requires
unfolding set_at
extent_at-requires c = search rules

pub returns : goal.returns
unfolding set_at
returns c = cc
