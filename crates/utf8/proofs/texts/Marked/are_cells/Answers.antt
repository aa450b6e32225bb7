-- `utf8::texts::Marked::are_cells` meets its contract.
use Rattle.utf8.proofs.Laws.{cells_by}
use borrow.Author.Rules.{rules}
use Rattle.utf8.proofs.texts.Marked.are_cells.Goals as goal

pub returns : goal.returns
returns c = λ e. cells_by _ _ _ _ _ c.any.ensures (λ k l h says. search rules) e
