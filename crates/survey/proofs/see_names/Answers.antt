-- `survey::see_names` meets its contract.
use borrow.Author.Rules.{rules}
use Rattle.survey.proofs.Looking.{quiet_sought, name_said, hit_said}
use Rattle.survey.proofs.see_names.Goals as goal

pub returns : goal.returns
returns c = quiet_sought _ _ _ _ _ (λ i r l h. search (hit_said, name_said, rules)) c.any.ensures (search rules)
