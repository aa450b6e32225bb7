-- `report::rulings::table_of_code` meets its contract.
use borrow.Author.Rules.{rules}
use mathlib.Core.Path.{◌∙◌}
use Rattle.report.proofs.Codes.{found-table, found-listed, not_listed}
use Rattle.report.proofs.rulings.table_of_code.Goals as goal

pub returns-then-k-lt-CODE_COUNT : goal.returns-then-k-lt-CODE_COUNT
returns-then-k-lt-CODE_COUNT c = (
  c.table_at.ensures ∙ found-table c.args.code _ _ c.first-k.ensures (λ i b l h. search rules) c.if-k-lt-CODE_COUNT.true,
  rw c.table_at.ensures (found-listed c.args.code _ _ c.first-k.ensures (λ i b l h. search rules) c.if-k-lt-CODE_COUNT.true),
)

pub returns-else-k-lt-CODE_COUNT : goal.returns-else-k-lt-CODE_COUNT
returns-else-k-lt-CODE_COUNT c = not_listed c.args.code _ _ c.first-k.ensures (λ i b l h. search rules) c.if-k-lt-CODE_COUNT.false
