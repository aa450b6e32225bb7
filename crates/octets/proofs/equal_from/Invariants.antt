-- What the loops of `octets::equal_from` keep.
use Rattle.octets.specs.TextLaws.{Alike}
use Rattle.octets.proofs.equal_from.Given as goal

abbrev pub invariant-loop-i : goal.invariant-loop-i
invariant-loop-i l = Alike l.a l.b l.i
