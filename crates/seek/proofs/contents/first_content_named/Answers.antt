-- `seek::contents::first_content_named` meets its contract.
use Rattle.std.proofs.Common.{rules, refl}
use Rattle.octets.specs.Search.{first}
use Rattle.octets.proofs.SearchLaws.{first_by}
use Rattle.seek.proofs.contents.first_content_named.Goals as goal

pub returns : goal.returns
unfolding first
returns c = first_by _ _ _ _ refl (λ k b s l h. search rules) _ c.first.ensures
