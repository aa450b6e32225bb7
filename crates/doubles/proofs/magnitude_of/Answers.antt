-- `doubles::magnitude_of` meets its contract.
use mathlib.Core.Path.{refl, sym, ◌∙◌}
use native.Mathlib.Omega.{arith}
use Rattle.doubles.specs.Doubles.{magnitude}
use Rattle.doubles.proofs.Laws.{nan_magnitude}
use Rattle.doubles.proofs.magnitude_of.Goals as goal

pub returns-then-is_nan : goal.returns-then-is_nan
returns-then-is_nan c = (nan_magnitude _ (sym c.is_nan.ensures.value ∙ c.if-is_nan.true), omega arith)

pub returns : goal.returns
unfolding magnitude
returns c = (refl, omega arith)
