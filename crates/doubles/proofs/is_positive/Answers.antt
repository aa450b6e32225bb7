-- `doubles::is_positive` meets its contract.
use lib.Ieee.{of_bits, div}
use Rattle.doubles.specs.Doubles.{positive}
use Rattle.doubles.proofs.is_positive.Goals as goal

pub returns-then-x : goal.returns-then-x
unfolding positive of_bits div
returns-then-x c = rw c.if-x.true

pub returns-else-x : goal.returns-else-x
unfolding positive of_bits div
returns-else-x c = rw c.if-x.false
