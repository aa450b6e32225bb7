-- `survey::see_tiles` meets its contract.
use borrow.Author.Rules.{rules}
use Rattle.survey.proofs.Looking.{look_more, level_said, placed_said}
use Rattle.survey.proofs.see_tiles.Goals as goal

pub loop-i-preserved : goal.loop-i-preserved
loop-i-preserved c = (search (look_more, level_said, rules), search (look_more, placed_said, rules), search (look_more, placed_said, rules))
