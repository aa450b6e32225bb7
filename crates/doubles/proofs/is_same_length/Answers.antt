-- `doubles::is_same_length` meets its contract.
use borrow.Author.Rules.{rules}
use Rattle.doubles.specs.Doubles.{same_length}
use Rattle.doubles.proofs.is_same_length.Goals as goal

pub is_near-requires : goal.is_near-requires
unfolding same_length
is_near-requires c = search rules

pub returns-then-is_near : goal.returns-then-is_near
unfolding same_length
returns-then-is_near c = rw (← c.is_near.ensures, c.if-is_near.true)

pub gap_of-requires : goal.gap_of-requires
unfolding same_length
gap_of-requires c = search rules

pub is_within_four-requires : goal.is_within_four-requires
unfolding same_length
is_within_four-requires c = search rules

pub returns : goal.returns
unfolding same_length
returns c = rw (← c.is_near.ensures, c.if-is_near.false, ← c.gap_of.ensures) c.is_within_four.ensures
