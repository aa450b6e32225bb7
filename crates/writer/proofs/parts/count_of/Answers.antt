-- `writer::parts::count_of` meets its contract.
use Rattle.writer.proofs.Laws.{count_fits, count-is}
use borrow.Author.Rules.{rules}
use Rattle.writer.proofs.parts.count_of.Goals as goal

pub overflow_cast-result : goal.overflow_cast-result
overflow_cast-result c = search (count_fits, rules)

pub returns : goal.returns
returns c = search (count-is, rules)
