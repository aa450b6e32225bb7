-- `utf8::steps::step` meets its contract.
use Rattle.utf8.specs.StepLaws.{step-one, step_ascii}
use borrow.Author.Rules.{rules}
use Rattle.utf8.proofs.steps.step.Goals as goal

pub returns-then-k-gt0 : goal.returns-then-k-gt0
returns-then-k-gt0 c = search (step_ascii, rules)

pub returns-else-k-gt0 : goal.returns-else-k-gt0
returns-else-k-gt0 c = search (step-one, rules)
