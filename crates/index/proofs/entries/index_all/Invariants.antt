-- What the loops of `index::entries::index_all` keep.
use Rattle.std.proofs.Common.{◌≡◌, length}
use Rattle.index.specs.Keys.{Indexes}
use Rattle.index.proofs.entries.index_all.Given as goal

abbrev pub invariant-loop-i : goal.invariant-loop-i
invariant-loop-i l = Indexes l.kind l.rows l.names l.work l.heads l.i × (length l.work ≡ length l.initial.work)
