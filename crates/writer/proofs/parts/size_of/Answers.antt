-- `writer::parts::size_of` meets its contract.
use Rattle.writer.proofs.Laws.{size_fits, size-is}
use borrow.Author.Rules.{rules}
use Rattle.writer.proofs.parts.size_of.Goals as goal

pub overflow_cast-result : goal.overflow_cast-result
overflow_cast-result c = search (size_fits, rules)

pub returns : goal.returns
returns c = search (size-is, rules)
