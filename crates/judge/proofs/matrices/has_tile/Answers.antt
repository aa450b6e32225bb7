-- `judge::matrices::has_tile` meets its contract.
use Rattle.rules.specs.JudgmentLaws.{is_found}
use Rattle.judge.proofs.matrices.has_tile.Goals as goal

pub returns : goal.returns
returns c = rw c.tile_count.ensures (is_found _ _ _ c.find_name.ensures)
