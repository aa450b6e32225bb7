-- `octets::u32_at` meets its contract.
use native.Mathlib.Omega.{arith}
use Rattle.octets.specs.OctetLaws.{le32-short}
use Rattle.octets.proofs.u32_at.Goals as goal

pub returns-then-s-lt4 : goal.returns-then-s-lt4
returns-then-s-lt4 c = le32-short _ _ (omega arith)

pub returns-then-s-at : goal.returns-then-s-at
returns-then-s-at c = le32-short _ _ (omega arith)
