-- `octets::slice_of` meets its contract.
use mathlib.Core.Path.{sym}
use Rattle.octets.specs.Slices.{nth}
use Rattle.octets.specs.SliceLaws.{behind}
use Rattle.octets.proofs.slice_of.Goals as goal

pub returns : goal.returns
unfolding nth
returns c = sym (behind (λ x. x.now) c.args.slices.now c.args.k _)
