-- `columns::entries::skip_clear` meets its contract.
use Rattle.columns.proofs.Laws.{cleared, cleared-alike}
use mathlib.Core.Path.{refl}
use borrow.Author.Rules.{rules}
use Rattle.columns.proofs.entries.skip_clear.Goals as goal

pub returns-then-j-i : goal.returns-then-j-i
returns-then-j-i c = search (cleared, rules)

pub returns : goal.returns
returns c =
    cleared-alike _ _ _ _ _ _ _ c.plain.ensures.1 c.from.ensures c.skip_plain-i.ensures _ _ _ c.requires.0 c.min.ensures refl refl c.skip_clear-j.ensures _ _ _ refl c.if-j-i.false c.long.ensures c.skip_alike.ensures
