-- `columns::entries::skip_blocks` meets its contract.
use Rattle.columns.proofs.Laws.{blocks_by}
use borrow.Author.Rules.{rules}
use Rattle.columns.proofs.entries.skip_blocks.Goals as goal

pub returns : goal.returns
returns g c = blocks_by _ _ _ _ _ _ (search rules) (search rules) c.first.ensures (λ k l h. search rules)
