-- `doubles::is_near` meets its contract.
use borrow.Author.Rules.{rules}
use Rattle.doubles.specs.Doubles.{near}
use Rattle.doubles.proofs.Laws.{no_nan}
use Rattle.doubles.proofs.is_near.Goals as goal

pub is_positive-requires : goal.is_positive-requires
unfolding near
is_positive-requires c = search rules

pub is_positive-requires-then-is_positive : goal.is_positive-requires-then-is_positive
unfolding near
is_positive-requires-then-is_positive c = search rules

pub float_to_bits-a : goal.float_to_bits-a
unfolding near
float_to_bits-a c = search (no_nan, rules)

pub float_to_bits-b : goal.float_to_bits-b
unfolding near
float_to_bits-b c = search (no_nan, rules)

pub returns-then-is_positive-2 : goal.returns-then-is_positive-2
unfolding near
returns-then-is_positive-2 c = rw (← c.is_positive.ensures, c.if-is_positive.true, ← c.is_positive-then-is_positive.ensures, c.if-is_positive-2.true)
    (rw c.abs_diff.ensures)

pub returns-else-is_positive-2 : goal.returns-else-is_positive-2
unfolding near
returns-else-is_positive-2 c = rw (← c.is_positive.ensures, c.if-is_positive.true, ← c.is_positive-then-is_positive.ensures, c.if-is_positive-2.false)

pub returns-else-is_positive : goal.returns-else-is_positive
unfolding near
returns-else-is_positive c = rw (← c.is_positive.ensures, c.if-is_positive.false)
