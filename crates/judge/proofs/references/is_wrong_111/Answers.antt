-- `judge::references/is_wrong_111` meets its contract.
use Rattle.std.proofs.Common.{ap, ◌∙◌}
use Rattle.std.proofs.Math.Bool.{not, and-true, and-false}
use Rattle.pack.specs.Tables.{reference_of}
use Rattle.rules.specs.References.{has_id, wrong111}
use Rattle.judge.proofs.references.is_wrong_111.Goals as goal
use Rattle.judge.proofs.references.is_wrong_111.Goals.{then-is_equal-2, else-is_equal-2}

pub returns-after-is_equal-2 : goal.returns-after-is_equal-2
unfolding wrong111 has_id reference_of
returns-after-is_equal-2 c =
    elim c.if-is_equal-2.branch [
      | then-is_equal-2 w ↦ simp (← c.is_equal.ensures, c.if-is_equal.true, ← w.is_organization.ensures, ← c.is_equal-then-is_equal.ensures, w.if-is_equal-2.true, and-true) (ap not w.result-is)
      | else-is_equal-2 w ↦ simp (← c.is_equal.ensures, c.if-is_equal.true, ← c.is_equal-then-is_equal.ensures, w.if-is_equal-2.false, and-false) (ap not (w.result-is ∙ w.if-is_equal-2.false))
    ]

pub returns-else-is_equal : goal.returns-else-is_equal
unfolding wrong111 has_id reference_of
returns-else-is_equal c = simp (← c.is_equal.ensures, c.if-is_equal.false)
