-- `utf8::steps::is_plain_block` meets its contract.
use native.Mathlib.Omega.{arith}
use mathlib.Core.Path.{sym, ◌∙◌}
use Rattle.utf8.specs.PlainLaws.{block_most}
use Rattle.utf8.proofs.steps.is_plain_block.Goals as goal

pub returns : goal.returns
returns c = λ e. block_most _ _ _ _ (omega arith) (omega arith) c.highest.ensures (sym c.is_ascii.ensures ∙ e)
