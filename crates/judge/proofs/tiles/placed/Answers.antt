-- `judge::tiles::placed` meets its contract.
use Rattle.std.proofs.Common.{ap, ◌∙◌}
use borrow.Author.Tests.{lt-ltb, le-ltb}
use Rattle.rules.specs.Judgments.{fault_if}
use Rattle.rules.specs.Tiles.{placed}
use Rattle.judge.proofs.tiles.placed.Goals as goal
use Rattle.judge.proofs.tiles.placed.Goals.{then-k-n, else-k-n}

pub returns : goal.returns
unfolding placed
returns c = elim c.if-k-n.branch [
  | then-k-n w ↦ simp (lt-ltb _ _ w.if-k-n.true, ← w.matrix_at.ensures, ← w.is_off_along.ensures) (c.fault_if.ensures ∙ ap fault_if w.fault_if-is)
  | else-k-n w ↦ simp (le-ltb _ _ w.if-k-n.false) (c.fault_if.ensures ∙ ap fault_if (w.fault_if-is ∙ le-ltb _ _ w.if-k-n.false))
]
