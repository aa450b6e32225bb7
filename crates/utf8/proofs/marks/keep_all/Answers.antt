-- `utf8::marks::keep_all` meets its contract.
use Rattle.utf8.proofs.Laws.{walk-border, ends_next}
use borrow.Author.Rules.{rules}
use Rattle.utf8.proofs.marks.keep_all.Goals as goal

pub loop-p-preserved : goal.loop-p-preserved
loop-p-preserved c = search (walk-border, ends_next, rules)
