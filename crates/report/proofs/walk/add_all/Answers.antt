-- `report::walk::add_all` meets its contract.
use mathlib.Core.Path.{◌≡◌, refl, sym, ap, ◌∙◌}
use mathlib.Core.List.{map}
use native.Mathlib.Omega.{arith}
use Rattle.pack.specs.Tables.{pack_in}
use Rattle.rules.specs.Judgments.{none}
use Rattle.rules.specs.Codes.{code_count, table_of}
use Rattle.rules.specs.CodeLaws.{place-table}
use Rattle.findings.specs.Findings.{of_place, findings}
use Rattle.findings.specs.FindingLaws.{places_length}
use Rattle.report.specs.BufferLaws.{added_none, added_more}
use borrow.Author.Rules.{rules}
use Rattle.report.proofs.walk.add_all.Goals as goal

pub loop-k-init : goal.loop-k-init
unfolding of_place findings
loop-k-init c = (added_none _ _, refl, refl)

pub add_code-tally-requires : goal.add_code-tally-requires
unfolding of_place findings
add_code-tally-requires c = let seen = c.look-s in
    let k = c.loop-k.k in record { surveyed = seen.ensures; numbered = c.requires; table_value = c.table_at.ensures ∙ sym (place-table k (omega arith)) ∙ ap table_of (sym c.code_at.ensures); total_bound = omega (arith, c.loop-k.invariant.0.count, places_length (pack_in c.args.tables.form (map (λ x. x.now) c.args.tables.slices)) none k c.requires) }

pub loop-k-preserved : goal.loop-k-preserved
unfolding of_place findings
loop-k-preserved c = let a = c.args in (
  added_more c.loop-k.k (of_place (pack_in a.tables.form (map (λ x. x.now) a.tables.slices))) c.loop-k.invariant.0 (rw (c.code_at.ensures, c.table_at.ensures) at c.add_code-tally.ensures),
  c.add_code-tally.auto.out ∙ c.loop-k.invariant.1,
  c.add_code-tally.auto.work ∙ c.loop-k.invariant.2,
)

pub shape_of-work : goal.shape_of-work
unfolding of_place findings
shape_of-work c = c.loop-k.invariant.2 ∙ c.look-s.auto.work

pub returns : goal.returns
unfolding of_place findings
returns c = let e : c.loop-k.k ≡ code_count = omega arith in
    rw e at c.loop-k.invariant.0
