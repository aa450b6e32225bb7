-- `metadata::judging/of_975` meets its contract.
use Rattle.std.proofs.Common.{ap, ◌∙◌}
use Rattle.rules.specs.Judgments.{fault_if}
use Rattle.metadata.specs.Tables.{link_of}
use Rattle.metadata.specs.Rules.{of975}
use Rattle.metadata.proofs.Laws.{some_read}
use Rattle.metadata.proofs.judging.of_975.Goals as goal

pub returns-then-wants_no_table : goal.returns-then-wants_no_table
unfolding link_of of975
returns-then-wants_no_table c = simp (← c.scope_of.ensures, ← c.wants_no_table.ensures, c.if-wants_no_table.true) (c.fault_if.ensures ∙ ap fault_if (c.is_some.ensures ∙ some_read _ _))

pub returns-else-wants_no_table : goal.returns-else-wants_no_table
unfolding link_of of975
returns-else-wants_no_table c = simp (← c.scope_of.ensures, ← c.wants_no_table.ensures, c.if-wants_no_table.false) c.in_contents.ensures
