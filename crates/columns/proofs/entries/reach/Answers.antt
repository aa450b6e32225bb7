-- `columns::entries::reach` meets its contract.
use Rattle.columns.specs.EntryLaws.{reach_end}
use borrow.Author.Rules.{rules}
use Rattle.columns.proofs.entries.reach.Goals as goal

pub returns : goal.returns
returns c = reach_end _ _ _ _ _ _ _ c.loop-i.invariant.0 (search rules) (search rules) (search rules)
