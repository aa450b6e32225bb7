-- `report::buffer::put_finding` meets its contract.
use Rattle.report.proofs.Adding.{put_three, put_full}
use borrow.Author.Rules.{rules}
use Rattle.report.proofs.buffer.put_finding.Goals as goal

pub returns-then-n-out : goal.returns-then-n-out
returns-then-n-out c = search (put_three, rules)

pub returns-else-n-out : goal.returns-else-n-out
returns-else-n-out c = search (put_full, rules)
