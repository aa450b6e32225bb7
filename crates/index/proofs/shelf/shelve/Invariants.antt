-- What the loops of `index::shelf::shelve` keep.
use Rattle.std.proofs.Common.{◌≡◌, length}
use Rattle.index.specs.Keys.{Shelves}
use Rattle.index.proofs.shelf.shelve.Given as goal

abbrev pub invariant-loop-i : goal.invariant-loop-i
invariant-loop-i l = Shelves l.kind l.matrices l.names l.work l.heads l.i × (length l.work ≡ length l.initial.work)
