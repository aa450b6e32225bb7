-- `listing::rows::skip_clear` meets its contract.
use Rattle.listing.specs.FaultLaws.{passed_none, passed-more}
use Rattle.listing.proofs.Laws.{room-step, room-place, room-name}
use borrow.Author.Rules.{rules}
use Rattle.listing.proofs.rows.skip_clear.Goals as goal

pub returns-then-texts-ne1 : goal.returns-then-texts-ne1
returns-then-texts-ne1 c = search (passed_none, rules)

pub loop-c-init : goal.loop-c-init
loop-c-init c = search (passed_none, rules)

pub overflow_mul-size : goal.overflow_mul-size
overflow_mul-size c = search (room-step, rules)

pub overflow_add-size : goal.overflow_add-size
overflow_add-size c = search (room-place, rules)

pub name_by-here-requires : goal.name_by-here-requires
name_by-here-requires c = search (room-name, rules)

pub loop-c-preserved : goal.loop-c-preserved
loop-c-preserved c = search (c.is_seen.ensures, passed-more, rules)
