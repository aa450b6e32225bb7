-- `metadata::ready::prepare` meets its contract.
use Rattle.metadata.proofs.Laws.{cut_index}
use borrow.Author.Rules.{rules}
use Rattle.metadata.proofs.ready.prepare.Goals as goal

pub returns : goal.returns
returns c = search (cut_index, rules)
