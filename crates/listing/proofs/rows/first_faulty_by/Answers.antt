-- `listing::rows/first_faulty_by` meets its contract.
use Rattle.octets.proofs.SearchLaws.{seeks}
use Rattle.octets.specs.SearchLaws.{cursors}
use Rattle.listing.specs.FaultLaws.{roomy-same, passed_on}
use Rattle.listing.proofs.Laws.{room-step, room-place, room_texts, faulty_row_lem}
use borrow.Author.Rules.{rules}
use Rattle.listing.proofs.rows.first_faulty_by.Goals as goal

pub skip_clear-c-requires : goal.skip_clear-c-requires
skip_clear-c-requires c = search (roomy-same, rules)

pub loop-c-init : goal.loop-c-init
loop-c-init c = search (passed_on, cursors)

pub overflow_mul-at : goal.overflow_mul-at
overflow_mul-at c = search (room-step, rules)

pub overflow_add-at : goal.overflow_add-at
overflow_add-at c = search (room-place, rules)

pub has_faulty_text-requires : goal.has_faulty_text-requires
has_faulty_text-requires c = search (room_texts, rules)

pub returns-then-has_faulty_text : goal.returns-then-has_faulty_text
returns-then-has_faulty_text c = search (faulty_row_lem, seeks)

pub next-requires : goal.next-requires
next-requires c = search (roomy-same, room-step, room-place, room_texts, rules)

pub skip_clear-c-requires-in-loop-c : goal.skip_clear-c-requires-in-loop-c
skip_clear-c-requires-in-loop-c c = search (roomy-same, room_texts, rules)

pub loop-c-smaller : goal.loop-c-smaller
loop-c-smaller c = search (roomy-same, room-step, room-place, room_texts, rules)

pub loop-c-preserved : goal.loop-c-preserved
loop-c-preserved c = search (faulty_row_lem, passed_on, cursors)
