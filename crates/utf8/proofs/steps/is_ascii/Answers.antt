-- `utf8::steps::is_ascii` meets its contract.
use Rattle.utf8.specs.StepLaws.{ascii_eight}
use borrow.Author.Rules.{rules}
use Rattle.utf8.proofs.steps.is_ascii.Goals as goal

pub returns : goal.returns
returns c = λ e. search (ascii_eight, rules)
