-- What the loops of `utf8::steps::highest` keep.
use Rattle.utf8.specs.PlainLaws.{AtMost}
use Rattle.utf8.proofs.steps.highest.Given as goal

abbrev pub invariant-loop-x : goal.invariant-loop-x
invariant-loop-x l = AtMost l.s 0 l.x-index l.high
