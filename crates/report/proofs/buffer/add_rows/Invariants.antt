-- What the loop of `report::buffer::add_rows` keeps.
use Rattle.report.proofs.Gathering.{RuleWalking}
use Rattle.report.proofs.buffer.add_rows.Given as goal

abbrev pub invariant-loop-i : goal.invariant-loop-i
invariant-loop-i g l = RuleWalking (goal.F-post g l.rule) l.code l.initial.out l.initial.tally l.n l.i l.out l.tally
