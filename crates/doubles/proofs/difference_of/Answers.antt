-- `doubles::difference_of` meets its contract.
use Rattle.doubles.specs.Doubles.{difference}
use Rattle.doubles.proofs.difference_of.Goals as goal

pub returns-then-a-b : goal.returns-then-a-b
unfolding difference
returns-then-a-b c = rw c.if-a-b.true

pub returns-else-a-b : goal.returns-else-a-b
unfolding difference
returns-else-a-b c = rw c.if-a-b.false
