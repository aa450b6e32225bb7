-- `metadata::read::NoteRowRow::read` meets its contract.
use Rattle.metadata.specs.Tables.{note_at}
use Rattle.metadata.proofs.read.NoteRowRow.read.Goals as goal

pub returns : goal.returns
unfolding note_at
returns c = cc
