-- `octets::part_of` meets its contract.
use Rattle.octets.proofs.Laws.{part-short, part-whole}
use native.Mathlib.Omega.{arith}
use Rattle.octets.proofs.part_of.Goals as goal

pub returns-then-s-start : goal.returns-then-s-start
returns-then-s-start c = part-short _ _ _ (omega arith)

pub returns-then-s-start-2 : goal.returns-then-s-start-2
returns-then-s-start-2 c = part-short _ _ _ (omega arith)

pub returns : goal.returns
returns c = part-whole _ _ _ (omega arith)
