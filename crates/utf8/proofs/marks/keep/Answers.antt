-- `utf8::marks::keep` meets its contract.
use Rattle.utf8.specs.MarkLaws.{marks_pick, marks_fill}
use borrow.Author.Rules.{rules}
use Rattle.utf8.proofs.marks.keep.Goals as goal

pub loop-i-preserved : goal.loop-i-preserved
loop-i-preserved c = search (marks_pick, marks_fill, rules)
