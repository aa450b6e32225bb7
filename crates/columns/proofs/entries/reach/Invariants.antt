-- What the loops of `columns::entries::reach` keep.
use Prim.Native.Nat.{◌<◌}
use Rattle.columns.specs.Entries.{Reaching}
use Rattle.columns.proofs.entries.reach.Given as goal

abbrev pub invariant-loop-i : goal.invariant-loop-i
invariant-loop-i l = Reaching l.firsts l.start l.i l.latest l.longest × (l.latest < 4294967296) × (l.longest < 4294967296)
