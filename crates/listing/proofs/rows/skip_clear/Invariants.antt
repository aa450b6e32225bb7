-- What the loops of `listing::rows::skip_clear` keep.
use Prim.Native.Nat.{◌-◌}
use Rattle.listing.specs.FaultLaws.{Passed}
use Rattle.listing.proofs.rows.skip_clear.Given as goal

abbrev pub invariant-loop-c : goal.invariant-loop-c
invariant-loop-c l = Passed l.order l.names.octets.now l.table l.size l.base l.texts l.initial.c l.c

abbrev pub decreases-loop-c : goal.decreases-loop-c
decreases-loop-c l = l.c.end - l.c.row
