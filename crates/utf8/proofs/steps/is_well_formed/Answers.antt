-- `utf8::steps::is_well_formed` meets its contract.
use Rattle.utf8.specs.StepLaws.{walked_whole}
use borrow.Author.Rules.{rules}
use Rattle.utf8.proofs.steps.is_well_formed.Goals as goal

pub returns : goal.returns
returns c = search (walked_whole, rules)
