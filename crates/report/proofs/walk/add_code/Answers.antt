-- `report::walk::add_code` meets its contract.
use native.Mathlib.Omega.{arith}
use mathlib.Core.List.{map}
use Rattle.pack.specs.Tables.{pack_in}
use Rattle.findings.specs.Findings.{at_none, of_code}
use Rattle.findings.specs.FindingLaws.{rows-length}
use Rattle.report.specs.BufferLaws.{added-append}
use borrow.Author.Rules.{rules}
use Rattle.report.proofs.walk.add_code.Goals as goal

pub add_table_rows-tally-requires : goal.add_table_rows-tally-requires
unfolding of_code at_none
add_table_rows-tally-requires c = let pre = c.requires in record { surveyed = c.requires.surveyed; table_value = pre.table_value; n_value = c.rows_in-n.ensures; n_bound = omega (arith, c.rows_in-n.ensures, pre.numbered c.args.table, pre.total_bound) }

pub add-requires : goal.add-requires
unfolding of_code at_none
add-requires c = let a = c.args in
    let pre = c.requires in
    omega (arith, c.add_table_rows-tally.ensures.count, rows-length (pack_in a.tables.form (map (λ x. x.now) a.tables.slices)) a.code c.rows_in-n.result, c.rows_in-n.ensures, pre.numbered a.table, pre.total_bound)

pub returns : goal.returns
unfolding of_code at_none
returns c = added-append (rw c.rows_in-n.ensures at c.add_table_rows-tally.ensures) (rw c.judge_none-v.ensures at c.add.ensures)
