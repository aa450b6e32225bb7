-- `metadata::judging/of_995` meets its contract.
use Rattle.std.proofs.Common.{ap, ◌∙◌}
use Rattle.rules.specs.Judgments.{fault_if}
use Rattle.metadata.specs.Tables.{link_of}
use Rattle.metadata.specs.Rules.{of995}
use Rattle.metadata.proofs.Laws.{some_number, wrong_null}
use Rattle.metadata.proofs.judging.of_995.Goals as goal

pub returns : goal.returns
unfolding link_of of995
returns c = simp (← c.scope_of.ensures, ← c.wants_no_row.ensures) (c.fault_if.ensures ∙ ap fault_if (wrong_null _ _ _ _ c.is_none.ensures (some_number _ _ _ c.present_row_id.ensures)))
