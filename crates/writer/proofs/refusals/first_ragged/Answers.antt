-- `writer::refusals::first_ragged` meets its contract.
use Rattle.octets.proofs.SearchLaws.{first_by}
use Rattle.writer.proofs.Laws.{ragged-first}
use borrow.Author.Rules.{rules}
use Rattle.writer.proofs.refusals.first_ragged.Goals as goal

pub returns : goal.returns
returns c = first_by _ _ _ _ (ragged-first _) (λ k b s l h. search rules) _ c.first.ensures
