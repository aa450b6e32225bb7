-- `writer::refusals::room_answer` meets its contract.
use Rattle.writer.proofs.Laws.{room-short, room_whole}
use borrow.Author.Rules.{rules}
use Rattle.writer.proofs.refusals.room_answer.Goals as goal

pub returns-then-room-n : goal.returns-then-room-n
returns-then-room-n c = search (room-short, rules)

pub returns : goal.returns
returns c = search (room_whole, rules)
