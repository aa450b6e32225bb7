-- What the loops of `seek::scan::Entries::count` keep.
use Rattle.octets.specs.Counts.{Counted}
use Rattle.seek.specs.Scans.{is_entry}
use Rattle.seek.proofs.scan.Entries.count.Given as goal

abbrev pub invariant-loop-i : goal.invariant-loop-i
invariant-loop-i l = Counted (is_entry l.self.columns.now l.self.rows.now l.at.column l.at.row) l.start l.i l.count
