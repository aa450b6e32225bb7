-- What the loops of `index::chains::Index::walk_all` keep.
use Rattle.std.proofs.Common.{◌%◌}
use Rattle.index.specs.Chains.{row_range}
use Rattle.index.specs.Work.{place_of, print_of}
use Rattle.index.proofs.Shelving.{Shelving}
use Rattle.index.proofs.chains.Index.walk_all.Given as goal

abbrev pub invariant-loop-x : goal.invariant-loop-x
invariant-loop-x g l =
    Shelving (g.R.Asked.passes l.rows) l.self.work.now l.self.heads (place_of l.self.heads l.mix) (print_of l.mix) l.n l.x l.best

abbrev pub decreases-loop-x : goal.decreases-loop-x
decreases-loop-x g l = l.x % row_range
