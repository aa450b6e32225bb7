-- `writer::parts::length_of` meets its contract.
use Rattle.writer.proofs.Laws.{length-is}
use borrow.Author.Rules.{rules}
use Rattle.writer.proofs.parts.length_of.Goals as goal

pub returns : goal.returns
returns c = search (length-is, rules)
