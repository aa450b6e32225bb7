-- What the loop of `report::walk::add_all` keeps.
use mathlib.Core.Path.{◌≡◌}
use mathlib.Core.List.{map}
use lib.ListN.{length}
use Rattle.octets.specs.Gather.{gather}
use Rattle.pack.specs.Tables.{pack_in}
use Rattle.findings.specs.Findings.{of_place}
use Rattle.report.specs.Buffers.{Added, no_tally}
use Rattle.report.proofs.walk.add_all.Given as goal

abbrev pub invariant-loop-k : goal.invariant-loop-k
invariant-loop-k l = Added (gather l.k (of_place (pack_in l.tables.form (map (λ x. x.now) l.tables.slices)))) l.initial.out no_tally l.out l.tally × (length l.out ≡ length l.initial.out) × (length l.work ≡ length l.initial.work)
