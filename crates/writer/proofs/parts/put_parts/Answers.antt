-- `writer::parts::put_parts` meets its contract.
use Rattle.writer.proofs.Laws.{at_none_lem, part_none, part_room, part-fits, at_more, part-more, parts_whole}
use borrow.Author.Rules.{rules}
use Rattle.writer.proofs.parts.put_parts.Goals as goal

pub loop-k-init : goal.loop-k-init
loop-k-init c = search (at_none_lem, part_none, rules)

pub put_octets-requires : goal.put_octets-requires
put_octets-requires c = search (part_room, rules)

pub overflow_add-at : goal.overflow_add-at
overflow_add-at c = search (part-fits, rules)

pub loop-k-preserved : goal.loop-k-preserved
loop-k-preserved c = let l = c.loop-k in
    (search (at_more, rules), search rules, part-more _ _ _ _ l.at l.k l.invariant.0 c.table_at-part.ensures c.loop-k-test.true _ l.invariant.2 c.put_octets.ensures)

pub returns : goal.returns
returns c = search (parts_whole, c.loop-k.auto.k-end, rules)
