-- `listing::rows/has_faulty_text` meets its contract.
use mathlib.Core.Path.{refl}
use Rattle.octets.specs.Search.{first}
use Rattle.octets.proofs.SearchLaws.{any_by}
use borrow.Author.Rules.{rules}
use Rattle.listing.proofs.rows.has_faulty_text.Goals as goal

pub returns : goal.returns
unfolding first
returns c = any_by _ _ _ _ refl (λ k b s l h. search rules) _ c.any.ensures
