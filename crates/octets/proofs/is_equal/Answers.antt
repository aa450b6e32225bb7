-- `octets::is_equal` meets its contract.
use Rattle.octets.specs.NumberLaws.{equal_law}
use Rattle.octets.proofs.is_equal.Goals as goal

pub returns : goal.returns
returns c = equal_law _ _ c.ranges.a.fits c.ranges.b.fits
