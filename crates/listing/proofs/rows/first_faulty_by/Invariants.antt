-- What the loops of `listing::rows/first_faulty_by` keep.
use Prim.Native.Nat.{◌-◌}
use mathlib.Core.Path.{◌≡◌}
use Rattle.octets.specs.SearchLaws.{Seeking}
use Rattle.listing.specs.FaultLaws.{asked, row_fault}
use Rattle.listing.proofs.rows.first_faulty_by.Given as goal

abbrev pub invariant-loop-c : goal.invariant-loop-c
invariant-loop-c l = (l.c.end ≡ l.rows) × Seeking (row_fault (asked l.fault l.names.octets.now) l.shape.row l.shape.base l.shape.texts l.shape.null_from l.shape.null_end l.table) l.c.row l.c.end

abbrev pub decreases-loop-c : goal.decreases-loop-c
decreases-loop-c l = l.c.end - l.c.row
