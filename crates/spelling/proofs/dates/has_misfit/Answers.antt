-- `spelling::dates::has_misfit` meets its contract.
use Rattle.std.proofs.Common.{rules, refl}
use Rattle.octets.specs.Search.{first}
use Rattle.octets.proofs.SearchLaws.{any_by}
use Rattle.spelling.specs.Dates.{form, misfit}
use Rattle.spelling.proofs.dates.has_misfit.Goals as goal

pub returns : goal.returns
unfolding first form misfit
returns c = any_by _ _ _ _ refl (λ k b s l h. search rules) _ c.any.ensures
