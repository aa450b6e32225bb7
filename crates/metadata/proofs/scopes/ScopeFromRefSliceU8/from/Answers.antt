-- `metadata::scopes::ScopeFromRefSliceU8::from` meets its contract.
use Rattle.metadata.specs.Rules.{scope_of}
use Rattle.metadata.proofs.Laws.{when_yes, when_no}
use borrow.Author.Rules.{rules}
use Rattle.metadata.proofs.scopes.ScopeFromRefSliceU8.from.Goals as goal

pub returns-then-equal : goal.returns-then-equal
unfolding scope_of
returns-then-equal c = search (when_yes, when_no, rules) depth 10

pub returns-then-equal-2 : goal.returns-then-equal-2
unfolding scope_of
returns-then-equal-2 c = search (when_yes, when_no, rules) depth 10

pub returns-then-equal-3 : goal.returns-then-equal-3
unfolding scope_of
returns-then-equal-3 c = search (when_yes, when_no, rules) depth 10

pub returns-then-equal-4 : goal.returns-then-equal-4
unfolding scope_of
returns-then-equal-4 c = search (when_yes, when_no, rules) depth 10

pub returns-then-equal-5 : goal.returns-then-equal-5
unfolding scope_of
returns-then-equal-5 c = search (when_yes, when_no, rules) depth 10

pub returns-else-equal-5 : goal.returns-else-equal-5
unfolding scope_of
returns-else-equal-5 c = search (when_no, rules) depth 10
