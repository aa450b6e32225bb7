-- `columns::filling::fill_columns` meets its contract.
use Rattle.columns.proofs.Laws.{fill_short, fill_whole}
use borrow.Author.Rules.{rules}
use Rattle.columns.proofs.filling.fill_columns.Goals as goal

pub returns-then-is_short : goal.returns-then-is_short
returns-then-is_short c = search (fill_short, rules)

pub returns : goal.returns
returns c = search (fill_whole, rules)
