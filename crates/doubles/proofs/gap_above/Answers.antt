-- `doubles::gap_above` meets its contract.
use borrow.Author.Rules.{rules}
use Rattle.doubles.specs.Doubles.{gap_above}
use Rattle.doubles.proofs.gap_above.Goals as goal

pub double_of-requires : goal.double_of-requires
unfolding gap_above
double_of-requires c = search rules

pub double_of-requires-2 : goal.double_of-requires-2
unfolding gap_above
double_of-requires-2 c = search rules

pub returns : goal.returns
unfolding gap_above
returns c = cc
