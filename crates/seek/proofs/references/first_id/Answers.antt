-- `seek::references::first_id` meets its contract.
use Rattle.std.proofs.Common.{rules, refl}
use Rattle.octets.specs.Search.{first}
use Rattle.octets.proofs.SearchLaws.{first_by}
use Rattle.pack.specs.Tables.{reference_of}
use Rattle.rules.specs.References.{has_id}
use Rattle.seek.proofs.references.first_id.Goals as goal

pub returns : goal.returns
unfolding first has_id reference_of
returns c = first_by _ _ _ _ refl (λ k b s l h. search rules) _ c.first.ensures
