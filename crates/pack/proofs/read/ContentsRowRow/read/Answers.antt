-- `pack::read::ContentsRowRow::read` meets its contract.
use Rattle.pack.specs.Tables.{contents_at}
use borrow.Author.Rules.{rules}
use Rattle.pack.proofs.read.ContentsRowRow.read.Goals as goal

pub name_at-requires : goal.name_at-requires
unfolding contents_at
name_at-requires c = search rules

pub name_at-requires-2 : goal.name_at-requires-2
unfolding contents_at
name_at-requires-2 c = search rules

pub name_at-requires-3 : goal.name_at-requires-3
unfolding contents_at
name_at-requires-3 c = search rules

pub long-requires : goal.long-requires
unfolding contents_at
long-requires c = search rules

pub word-requires : goal.word-requires
unfolding contents_at
word-requires c = search rules

pub returns : goal.returns
unfolding contents_at
returns c = simp (c.name_at.ensures, c.name_at-2.ensures, c.name_at-3.ensures, c.long.ensures, c.word.ensures)
