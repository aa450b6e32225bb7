-- `metadata::judging/in_contents` meets its contract.
use Rattle.metadata.proofs.Laws.{named_by}
use borrow.Author.Rules.{rules}
use Rattle.metadata.proofs.judging.in_contents.Goals as goal

pub returns-in_default : goal.returns-in_default
returns-in_default c = cc

pub returns : goal.returns
returns c = search (named_by, rules)
