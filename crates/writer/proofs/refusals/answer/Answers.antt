-- `writer::refusals::answer` meets its contract.
use Rattle.writer.specs.Writing.{size_reasons, write_reasons}
use Rattle.writer.proofs.Laws.{size_stop, sizes-past, sized-by, steps}
use borrow.Author.Rules.{rules}
use Rattle.writer.proofs.refusals.answer.Goals as goal

pub returns-then-k-lt8 : goal.returns-then-k-lt8
unfolding write_reasons size_reasons
returns-then-k-lt8 c = search (size_stop 0, steps)

pub returns-then-k-lt8-2 : goal.returns-then-k-lt8-2
unfolding write_reasons size_reasons
returns-then-k-lt8-2 c = search (size_stop 1, steps)

pub sized_answer-requires : goal.sized_answer-requires
sized_answer-requires c = search (sized-by, rules)

pub returns : goal.returns
unfolding write_reasons size_reasons
returns c = search (sizes-past, steps)
