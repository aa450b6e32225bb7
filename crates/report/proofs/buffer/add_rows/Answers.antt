-- `report::buffer::add_rows` meets its contract.
use borrow.Author.Rules.{rules}
use Rattle.report.proofs.Gathering.{rule_start, rule-room, rule_more, gather_end}
use Rattle.report.proofs.buffer.add_rows.Goals as goal

pub loop-i-init : goal.loop-i-init
loop-i-init g c = search (rule_start, rules)

pub add-tally-requires : goal.add-tally-requires
add-tally-requires g c = search (rule-room, rules)

pub loop-i-preserved : goal.loop-i-preserved
loop-i-preserved g c = search (rule_more, rules)

pub returns : goal.returns
returns g c = search (gather_end, rules)
