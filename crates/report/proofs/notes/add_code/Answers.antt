-- `report::notes::add_code` meets its contract.
use borrow.Author.Rules.{rules}
use mathlib.Core.List.{map}
use Rattle.metadata.specs.Tables.{notebook_in}
use Rattle.findings.specs.Schemes.{at_row_by}
use Rattle.findings.specs.MetadataAnswers.{metadata_scheme}
use Rattle.report.specs.NoteLaws.{notes-room, notes-code}
use Rattle.report.proofs.notes.add_code.Goals as goal

pub add_rows-requires-clause-n_bound : goal.add_rows-requires-clause-n_bound
add_rows-requires-clause-n_bound c = search (notes-room, rules)

pub returns : goal.returns
unfolding at_row_by
returns c =
    let p = notebook_in (map (λ x. x.now) c.args.ready.tables.slices) in
    notes-code p c.args.code c.args.table _ _ _ _ _ c.rows_in-n.ensures (c.add_rows.ensures.added ((metadata_scheme p).says c.args.code) (λ i v l s. search rules))
