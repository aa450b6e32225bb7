-- What the loops of `utf8::marks::keep` keep.
use Rattle.utf8.specs.MarkLaws.{Marks}
use Rattle.utf8.proofs.marks.keep.Given as goal

abbrev pub invariant-loop-i : goal.invariant-loop-i
invariant-loop-i l = Marks l.s l.marks
