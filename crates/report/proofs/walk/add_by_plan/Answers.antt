-- `report::walk::add_by_plan` meets its contract.
use borrow.Author.Rules.{rules}
use mathlib.Core.List.{map}
use Rattle.pack.specs.Tables.{pack_in}
use Rattle.rules.specs.Codes.{judged}
use Rattle.findings.specs.Findings.{at_row}
use Rattle.report.proofs.Walking.{ready_said}
use Rattle.report.proofs.walk.add_by_plan.Goals as goal

pub returns : goal.returns
unfolding at_row
returns c = c.add_rows.ensures.added (judged (pack_in c.args.tables.form (map (λ x. x.now) c.args.tables.slices)) c.args.code) (λ i v l s. search (ready_said, rules))
