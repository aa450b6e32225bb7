-- `judge::matrices::measured` meets its contract.
use Rattle.std.proofs.Common.{ap, ◌∙◌}
use borrow.Author.Tests.{lt-ltb, le-ltb}
use Rattle.pack.specs.Tables.{set_of}
use Rattle.rules.specs.Judgments.{fault_if}
use Rattle.rules.specs.Matrices.{measured}
use Rattle.judge.proofs.matrices.measured.Goals as goal
use Rattle.judge.proofs.matrices.measured.Goals.{then-k-n, else-k-n}

pub returns : goal.returns
unfolding measured set_of
returns c = elim c.if-k-n.branch [
  | then-k-n w ↦ simp (lt-ltb _ _ w.if-k-n.true, ← w.set_at.ensures, ← w.does_fit.ensures) (c.fault_if.ensures ∙ ap fault_if w.fault_if-is)
  | else-k-n w ↦ simp (le-ltb _ _ w.if-k-n.false) (c.fault_if.ensures ∙ ap fault_if (w.fault_if-is ∙ le-ltb _ _ w.if-k-n.false))
]
