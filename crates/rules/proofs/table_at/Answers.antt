-- `rules::table_at` meets its contract.
use Rattle.rules.specs.Codes.{table_at}
use borrow.Author.Rules.{rules}
use Rattle.rules.proofs.table_at.Goals as goal

pub returns : goal.returns
unfolding table_at
returns c = search rules
