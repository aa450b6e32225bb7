-- What the loop of `report::notes::add_codes` keeps.
use mathlib.Core.List.{map}
use Rattle.metadata.specs.Tables.{notebook_in}
use Rattle.report.specs.NoteLaws.{Walked}
use Rattle.report.proofs.notes.add_codes.Given as goal

abbrev pub invariant-loop-k : goal.invariant-loop-k
invariant-loop-k l = Walked (notebook_in (map (λ x. x.now) l.ready.tables.slices)) l.initial.out l.k l.out l.tally
