-- `survey::unknown` meets its contract.
use Rattle.survey.specs.SurveyLaws.{surveyed_unknown}
use Rattle.survey.proofs.unknown.Goals as goal

pub returns : goal.returns
returns c = λ p. surveyed_unknown p
