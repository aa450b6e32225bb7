-- `report::search::tile_of` meets its contract.
use Rattle.findings.specs.Answers.{tile_at}
use Rattle.report.proofs.Looking.{row_or_none}
use Rattle.report.proofs.search.tile_of.Goals as goal

pub returns : goal.returns
unfolding tile_at
returns c = row_or_none _ _ _ _ _ c.then_some.ensures (rw c.tile_count-n.ensures at c.first_at-k.ensures) c.tile_count-n.ensures
