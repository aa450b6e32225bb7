-- `writer::refusals::first_crowded` meets its contract.
use Rattle.octets.proofs.SearchLaws.{first_by}
use Rattle.writer.proofs.Laws.{crowded-first}
use borrow.Author.Rules.{rules}
use Rattle.writer.proofs.refusals.first_crowded.Goals as goal

pub returns : goal.returns
returns c = first_by _ _ _ _ (crowded-first _) (λ k b s l h. search rules) _ c.first.ensures
