-- `report::walk::add_table_rows` meets its contract.
use mathlib.Core.List.{map}
use Rattle.pack.specs.Tables.{pack_in}
use Rattle.report.specs.Walks.{at541}
use Rattle.report.specs.WalkLaws.{as_541, quiet-added}
use Rattle.report.proofs.Walking.{tile-room, tile-added}
use Rattle.report.proofs.walk.add_table_rows.Goals as goal

pub returns-then-is_quiet : goal.returns-then-is_quiet
returns-then-is_quiet c = let a = c.args in
    quiet-added (pack_in a.tables.form (map (λ x. x.now) a.tables.slices)) a.s a.code a.table a.n _ _ _ c.requires.surveyed c.requires.n_value c.is_quiet.ensures c.if-is_quiet.true

pub add_541-requires : goal.add_541-requires
add_541-requires c = let a = c.args in
    (tile-room (pack_in a.tables.form (map (λ x. x.now) a.tables.slices)) a.table a.n c.if-table-eq5.true c.requires.n_value a.t.total c.requires.n_bound)

pub returns-then-table-eq5 : goal.returns-then-table-eq5
returns-then-table-eq5 c = let a = c.args in
    let p = pack_in a.tables.form (map (λ x. x.now) a.tables.slices) in
    as_541 p a.n a.code _ _ _ _ c.if-code-eq541.true
    (tile-added p a.table a.n c.if-table-eq5.true c.requires.n_value (at541 p.tiles) _ _ _ _
    (rw c.slice_of.ensures at c.add_541.ensures))
