-- `metadata::ready::Ready::of` meets its contract.
use Rattle.metadata.proofs.Laws.{cut_index}
use borrow.Author.Rules.{rules}
use Rattle.metadata.proofs.ready.Ready.of.Goals as goal

pub invariant_of-result : goal.invariant_of-result
invariant_of-result c = search (cut_index, rules)
