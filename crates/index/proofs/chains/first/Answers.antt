-- `index::chains::first` meets its contract.
use Rattle.std.proofs.Common.{rules}
use Rattle.octets.specs.SearchLaws.{seek-start}
use Rattle.octets.proofs.SearchLaws.{first_by}
use Rattle.index.proofs.chains.first.Goals as goal

pub returns : goal.returns
returns g c = first_by _ _ _ _ (seek-start (g.R.Asked.passes c.args.rows.now) c.args.n).none (λ k b s l h. search rules) _ c.first.ensures
