-- `columns::entries::skip_alike` meets its contract.
use Rattle.columns.proofs.Laws.{blocks_skipped, alike_block}
use borrow.Author.Rules.{rules}
use Rattle.columns.proofs.entries.skip_alike.Goals as goal

pub returns : goal.returns
returns c = blocks_skipped _ _ _ _ _ c.skip_blocks.ensures (λ i l m says. search (alike_block, rules))
