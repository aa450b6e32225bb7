-- `columns::entries::is_faulty` meets its contract.
use Rattle.columns.proofs.Laws.{entry-by}
use borrow.Author.Rules.{rules}
use Rattle.columns.proofs.entries.is_faulty.Goals as goal

pub returns : goal.returns
returns c = search (entry-by, rules)
