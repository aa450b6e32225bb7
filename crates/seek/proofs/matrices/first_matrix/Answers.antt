-- `seek::matrices::first_matrix` meets its contract.
use Rattle.std.proofs.Common.{rules, refl}
use Rattle.octets.specs.Search.{first}
use Rattle.octets.proofs.SearchLaws.{first_by}
use Rattle.seek.proofs.matrices.first_matrix.Goals as goal

pub returns : goal.returns
unfolding first
returns c = first_by _ _ _ _ refl (λ k b s l h. search rules) _ c.first.ensures
