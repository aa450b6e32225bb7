-- `octets::word` meets its contract.
use mathlib.Core.Path.{◌∙◌}
use Rattle.octets.specs.OctetLaws.{le32-whole}
use native.Mathlib.Omega.{arith}
use Rattle.octets.proofs.word.Goals as goal

pub returns : goal.returns
returns c = omega arith ∙ le32-whole _ _ (omega arith)
