-- `doubles::is_within_four` meets its contract.
use mathlib.Core.Path.{sym, ◌∙◌}
use borrow.Author.Rules.{rules}
use lib.Ieee.{of_bits}
use Rattle.doubles.specs.Doubles.{within_four}
use Rattle.doubles.proofs.Laws.{within-asked}
use Rattle.doubles.proofs.is_within_four.Goals as goal

pub is_positive-requires : goal.is_positive-requires
unfolding within_four of_bits
is_positive-requires c = search rules

pub is_positive-requires-then-is_positive : goal.is_positive-requires-then-is_positive
unfolding within_four of_bits
is_positive-requires-then-is_positive c = search rules

pub is_positive-requires-then-is_positive-2 : goal.is_positive-requires-then-is_positive-2
unfolding within_four of_bits
is_positive-requires-then-is_positive-2 c = search rules

pub difference_of-requires : goal.difference_of-requires
unfolding within_four of_bits
difference_of-requires c = search rules

pub returns-then-is_positive-3 : goal.returns-then-is_positive-3
unfolding within_four of_bits
returns-then-is_positive-3 c = within-asked _ _ _ (sym c.is_positive.ensures ∙ c.if-is_positive.true)
    (sym c.is_positive-then-is_positive.ensures ∙ c.if-is_positive-2.true)
    (sym c.is_positive-then-is_positive-2.ensures ∙ c.if-is_positive-3.true) _ (rw c.difference_of.ensures)

pub returns-else-is_positive-3 : goal.returns-else-is_positive-3
unfolding within_four of_bits
returns-else-is_positive-3 c = rw (← c.is_positive.ensures, c.if-is_positive.true, ← c.is_positive-then-is_positive.ensures, c.if-is_positive-2.true, ← c.is_positive-then-is_positive-2.ensures, c.if-is_positive-3.false)

pub returns-else-is_positive-2 : goal.returns-else-is_positive-2
unfolding within_four of_bits
returns-else-is_positive-2 c = rw (← c.is_positive.ensures, c.if-is_positive.true, ← c.is_positive-then-is_positive.ensures, c.if-is_positive-2.false)

pub returns-else-is_positive : goal.returns-else-is_positive
unfolding within_four of_bits
returns-else-is_positive c = rw (← c.is_positive.ensures, c.if-is_positive.false)
