-- What the loops of `utf8::marks::fill` keep.
use Rattle.utf8.specs.MarkLaws.{Filled}
use Rattle.utf8.proofs.marks.fill.Given as goal

abbrev pub invariant-loop-j : goal.invariant-loop-j
invariant-loop-j l = Filled l.from l.z l.i l.old l.w
