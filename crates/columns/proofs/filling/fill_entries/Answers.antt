-- `columns::filling::fill_entries` meets its contract.
use native.Mathlib.Omega.{arith}
use Rattle.columns.specs.FillLaws.{tile-inside, filling_none, filling_room, filling_whole, firsts_more, numbers_more}
use borrow.Author.Rules.{rules}
use Rattle.columns.proofs.filling.fill_entries.Goals as goal

pub loop-i-init : goal.loop-i-init
loop-i-init c = search (filling_none, rules)

pub copy_entry-requires : goal.copy_entry-requires
copy_entry-requires c = search (tile-inside, filling_room, rules)

pub copy_entry-requires-in-loop-i : goal.copy_entry-requires-in-loop-i
copy_entry-requires-in-loop-i c = search (tile-inside, filling_room, rules)

pub copy_entry-requires-in-loop-i-2 : goal.copy_entry-requires-in-loop-i-2
copy_entry-requires-in-loop-i-2 c = search (tile-inside, filling_room, rules)

pub copy_entry-requires-in-loop-i-3 : goal.copy_entry-requires-in-loop-i-3
copy_entry-requires-in-loop-i-3 c = search (tile-inside, filling_room, rules)

pub loop-i-preserved : goal.loop-i-preserved
loop-i-preserved c = let count = c.requires.count in (
  firsts_more _ _ _ count c.loop-i-test.true _ _ _ c.loop-i.invariant.0 c.copy_entry.ensures,
  numbers_more _ _ _ count c.loop-i-test.true _ _ _ 0 (omega arith) c.loop-i.invariant.1 c.copy_entry-in-loop-i.ensures,
  numbers_more _ _ _ count c.loop-i-test.true _ _ _ 1 (omega arith) c.loop-i.invariant.2 c.copy_entry-in-loop-i-2.ensures,
  numbers_more _ _ _ count c.loop-i-test.true _ _ _ 2 (omega arith) c.loop-i.invariant.3 c.copy_entry-in-loop-i-3.ensures,
)

pub returns : goal.returns
returns c = record {
  firsts_after = search (filling_whole, rules);
  zooms_after = search (filling_whole, rules);
  columns_after = search (filling_whole, rules);
  rows_after = search (filling_whole, rules);
}
