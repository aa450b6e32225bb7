-- `writer::refusals::is_crowded` meets its contract.
use Rattle.writer.proofs.Laws.{crowded-of}
use borrow.Author.Rules.{rules}
use Rattle.writer.proofs.refusals.is_crowded.Goals as goal

pub returns : goal.returns
returns c = search (crowded-of, rules)
