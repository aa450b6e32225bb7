-- `survey::look` meets its contract.
use Rattle.survey.proofs.look.Goals as goal

pub returns : goal.returns
returns c = let e₇ = c.slice_of-names.ensures in
    let e₄ = c.slice_of-matrices.ensures in
    let e₂ = c.slice_of-contents.ensures in
    let seen = rw (e₄, e₇) at c.see_tiles-places.ensures in
    record { steps = rw (e₄, e₇) at c.see_steps-steps.ensures; names = rw (e₂, e₄, e₇) at c.see_names-named.ensures; levels = seen.levels_quiet; columns = seen.columns_quiet; rows = seen.rows_quiet }
