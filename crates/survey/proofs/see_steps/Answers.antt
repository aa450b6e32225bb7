-- `survey::see_steps` meets its contract.
use borrow.Author.Rules.{rules}
use Rattle.survey.specs.Surveys.{step_at}
use Rattle.survey.proofs.Looking.{quiet_sought, step_seen}
use Rattle.survey.proofs.see_steps.Goals as goal

pub returns : goal.returns
unfolding step_at
returns c = quiet_sought _ _ _ _ _ (λ i r l h. search (step_seen, rules)) c.any.ensures (search rules)
