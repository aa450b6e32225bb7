-- `pack::tables::Tables::rows_in` meets its contract.
use mathlib.Core.List.{map}
use Rattle.pack.specs.Rows.{rows_in}
use Rattle.pack.specs.Tables.{pack_in}
use Rattle.pack.proofs.Laws.{rows_other}
use native.Mathlib.Omega.{arith}
use Rattle.pack.proofs.tables.Tables.rows_in.Goals as goal

pub returns-in-1 : goal.returns-in-1
unfolding rows_in
returns-in-1 c = rw (c.in-1.is, c.slice_of.ensures)

pub returns-in-2 : goal.returns-in-2
unfolding rows_in
returns-in-2 c = rw (c.in-2.is, c.slice_of-in-2.ensures)

pub returns-in-3 : goal.returns-in-3
unfolding rows_in
returns-in-3 c = rw (c.in-3.is, c.slice_of-in-3.ensures)

pub returns-in-4 : goal.returns-in-4
unfolding rows_in
returns-in-4 c = rw (c.in-4.is, c.slice_of-in-4.ensures)

pub returns-in-5 : goal.returns-in-5
unfolding rows_in
returns-in-5 c = rw c.in-5.is c.tile_count.ensures

pub returns-in-6 : goal.returns-in-6
unfolding rows_in
returns-in-6 c = rw (c.in-6.is, c.slice_of-in-6.ensures)

pub returns-in_default : goal.returns-in_default
unfolding rows_in
returns-in_default c =
    let a = c.args in
    rows_other (pack_in a.self.form (map (λ x. x.now) a.self.slices)) a.table (omega arith) (omega arith) (omega arith) (omega arith) (omega arith) (omega arith)
