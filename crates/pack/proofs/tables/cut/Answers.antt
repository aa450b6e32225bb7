-- `pack::tables::cut` meets its contract.
use Rattle.std.proofs.Common.{sym}
use Rattle.octets.specs.Slices.{nth}
use Rattle.octets.specs.SliceLaws.{behind}
use Rattle.pack.proofs.Laws.{cut_rows}
use Rattle.pack.proofs.tables.cut.Goals as goal

pub returns-clause-pack : goal.returns-clause-pack
unfolding nth
returns-clause-pack c = cut_rows _ _ _ _ c.cut-tables.ensures (sym (behind (λ x. x.now) c.cut-tables.result 4 _)) c.with_tiles.ensures.slices
