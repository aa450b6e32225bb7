-- `report::notes::add_codes` meets its contract.
use borrow.Author.Rules.{rules}
use Rattle.report.specs.NoteLaws.{places_none, places_room, places_more, places_end}
use Rattle.report.proofs.notes.add_codes.Goals as goal

pub loop-k-init : goal.loop-k-init
loop-k-init c = search (places_none, rules)

pub add_code-tally-requires : goal.add_code-tally-requires
add_code-tally-requires c = search (places_room, rules)

pub loop-k-preserved : goal.loop-k-preserved
loop-k-preserved c = search (places_more, rules)

pub returns : goal.returns
returns c = search (places_end, rules)
