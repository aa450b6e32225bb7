-- `pack::read::tile_entry` meets its contract.
use Rattle.pack.specs.Columns.{entry_at}
use borrow.Author.Rules.{rules}
use Rattle.pack.proofs.read.tile_entry.Goals as goal

pub long-requires : goal.long-requires
unfolding entry_at
long-requires c = search rules

pub name_of-requires : goal.name_of-requires
unfolding entry_at
name_of-requires c = search rules

pub long-requires-2 : goal.long-requires-2
unfolding entry_at
long-requires-2 c = search rules

pub long-requires-3 : goal.long-requires-3
unfolding entry_at
long-requires-3 c = search rules

pub long-requires-4 : goal.long-requires-4
unfolding entry_at
long-requires-4 c = search rules

pub returns : goal.returns
unfolding entry_at
returns c = cc
