-- What the loops of `utf8::steps::plain_end` keep.
use Prim.Native.Nat.{◌-◌}
use lib.ListN.{length}
use Rattle.utf8.specs.PlainLaws.{Plain}
use Rattle.utf8.proofs.steps.plain_end.Given as goal

abbrev pub invariant-loop-n : goal.invariant-loop-n
invariant-loop-n l = Plain l.s l.n

abbrev pub decreases-loop-n : goal.decreases-loop-n
decreases-loop-n l = length l.s - l.n
