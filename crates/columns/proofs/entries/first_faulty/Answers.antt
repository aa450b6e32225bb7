-- `columns::entries::first_faulty` meets its contract.
use Rattle.octets.proofs.SearchLaws.{seeks}
use Rattle.columns.proofs.Laws.{skip_on, skip_next}
use borrow.Author.Rules.{rules}
use Rattle.columns.proofs.entries.first_faulty.Goals as goal

pub loop-i-init : goal.loop-i-init
loop-i-init c = search (skip_on, seeks)

pub returns-then-is_faulty : goal.returns-then-is_faulty
returns-then-is_faulty c = search seeks

pub loop-i-preserved : goal.loop-i-preserved
loop-i-preserved c = search (skip_next, rules)
