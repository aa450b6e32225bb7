-- `doubles::doubled` meets its contract.
use mathlib.Core.Path.{refl}
use lib.Ieee.{of_bits}
use Rattle.doubles.specs.Doubles.{twice}
use Rattle.doubles.proofs.doubled.Goals as goal

pub returns : goal.returns
unfolding twice of_bits
returns c = refl
