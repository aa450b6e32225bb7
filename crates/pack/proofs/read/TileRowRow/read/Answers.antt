-- `pack::read::TileRowRow::read` meets its contract.
use Rattle.pack.specs.Tables.{tile_at}
use borrow.Author.Rules.{rules}
use Rattle.pack.proofs.read.TileRowRow.read.Goals as goal

pub name_at-requires : goal.name_at-requires
unfolding tile_at
name_at-requires c = search rules

pub long-requires : goal.long-requires
unfolding tile_at
long-requires c = search rules

pub long-requires-2 : goal.long-requires-2
unfolding tile_at
long-requires-2 c = search rules

pub long-requires-3 : goal.long-requires-3
unfolding tile_at
long-requires-3 c = search rules

pub returns : goal.returns
unfolding tile_at
returns c = cc
