-- What the loops of `columns::entries::first_faulty` keep.
use Prim.Native.Nat.{◌-◌, ◌≤◌}
use lib.ListN.{length}
use Rattle.octets.specs.SearchLaws.{Seeking}
use Rattle.listing.specs.FaultLaws.{asked}
use Rattle.columns.specs.Refusals.{faulty_entry}
use Rattle.columns.proofs.entries.first_faulty.Given as goal

abbrev pub invariant-loop-i : goal.invariant-loop-i
invariant-loop-i l = (length l.names.octets.now ≤ 1048576) × Seeking (faulty_entry (asked l.fault l.names.octets.now) l.firsts) l.i l.n

abbrev pub decreases-loop-i : goal.decreases-loop-i
decreases-loop-i l = l.n - l.i
