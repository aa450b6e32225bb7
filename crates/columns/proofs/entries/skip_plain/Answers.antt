-- `columns::entries::skip_plain` meets its contract.
use borrow.Author.Tests.{le-ltb}
use Rattle.columns.specs.Entries.{is_past}
use Rattle.columns.proofs.Laws.{blocks_skipped}
use borrow.Author.Rules.{rules}
use Rattle.columns.proofs.entries.skip_plain.Goals as goal

pub returns : goal.returns
unfolding is_past
returns c = blocks_skipped _ _ _ _ _ c.skip_blocks.ensures (λ i l m says k a b. search (le-ltb, rules))
