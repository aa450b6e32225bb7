-- `metadata::judging/of_985` meets its contract.
use Rattle.std.proofs.Common.{ap, ◌∙◌}
use Rattle.rules.specs.Judgments.{fault_if}
use Rattle.metadata.specs.Tables.{link_of}
use Rattle.metadata.specs.Rules.{of985}
use Rattle.metadata.proofs.Laws.{some_read, wrong_null}
use Rattle.metadata.proofs.judging.of_985.Goals as goal

pub returns : goal.returns
unfolding link_of of985
returns c = simp (← c.scope_of.ensures, ← c.wants_no_column.ensures) (c.fault_if.ensures ∙ ap fault_if (wrong_null _ _ _ _ c.is_none.ensures (some_read c.args.names.now _)))
