-- What the loops of `octets::equal` keep.
use Rattle.octets.specs.TextLaws.{Alike}
use Prim.Native.Nat.{◌-◌}
use lib.ListN.{length}
use Rattle.octets.proofs.equal.Given as goal

abbrev pub invariant-loop-i : goal.invariant-loop-i
invariant-loop-i l = Alike l.a l.b l.i

abbrev pub decreases-loop-i : goal.decreases-loop-i
decreases-loop-i l = length l.a - l.i
