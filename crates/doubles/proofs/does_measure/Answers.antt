-- `doubles::does_measure` meets its contract.
use native.Mathlib.Omega.{arith}
use borrow.Author.Rules.{rules}
use lib.Dec.{le→leb}
use lib.Ieee.{in_float}
use Rattle.doubles.proofs.Laws.{bounded, measuring}
use Rattle.doubles.proofs.does_measure.Goals as goal

pub natural_of-n-requires : goal.natural_of-n-requires
unfolding in_float
natural_of-n-requires c = search rules

pub natural_of-m-requires : goal.natural_of-m-requires
unfolding in_float
natural_of-m-requires c = search rules

pub returns-then-n-eq0 : goal.returns-then-n-eq0
unfolding in_float
returns-then-n-eq0 c = search measuring

pub returns-then-m-eq0 : goal.returns-then-m-eq0
unfolding in_float
returns-then-m-eq0 c = search measuring

pub returns-then-n-m : goal.returns-then-n-m
unfolding in_float
returns-then-n-m c = search measuring

pub overflow_mul-n : goal.overflow_mul-n
unfolding in_float
overflow_mul-n c = search (bounded, arith, rules)

pub int_to_float-n : goal.int_to_float-n
unfolding in_float
int_to_float-n c = search (le→leb, bounded, arith, rules)

pub is_same_length-requires : goal.is_same_length-requires
unfolding in_float
is_same_length-requires c = search rules

pub returns : goal.returns
unfolding in_float
returns c = search measuring
