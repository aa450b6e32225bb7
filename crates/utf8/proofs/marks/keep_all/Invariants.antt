-- What the loops of `utf8::marks::keep_all` keep.
use Prim.Native.Nat.{◌-◌}
use lib.ListN.{length}
use Rattle.utf8.specs.CoverLaws.{Ends}
use Rattle.utf8.specs.MarkLaws.{Marks}
use Rattle.utf8.proofs.marks.keep_all.Given as goal

abbrev pub invariant-loop-p : goal.invariant-loop-p
invariant-loop-p l = Marks l.s l.marks × Ends l.s l.p

abbrev pub decreases-loop-p : goal.decreases-loop-p
decreases-loop-p l = length l.s - l.p
