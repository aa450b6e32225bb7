-- What the loops of `columns::entries::count_others` keep.
use Rattle.octets.specs.Counts.{Counted}
use Rattle.columns.specs.Entries.{is_other}
use Rattle.columns.proofs.entries.count_others.Given as goal

abbrev pub invariant-loop-i : goal.invariant-loop-i
invariant-loop-i l = Counted (is_other l.firsts l.v) l.start l.i l.count
