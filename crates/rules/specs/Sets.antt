-- The rules on matrix sets (table 3): 391, 392, 411.
use Rattle.std.specs.Prelude.{ℕ, not}
use Rattle.pack.specs.Rows.{Rows, Reference, Content, MatrixSet}
use Rattle.rules.specs.Judgments.{fault_if, lowest, unless_some, Judgment}
use Rattle.rules.specs.References.{has_id}
use Rattle.rules.specs.Contents.{is_tiles_name, set_named}

-- 391: set row; no tiles name
unfoldable pub of391 : Rows Content → MatrixSet → Judgment
of391 cs q = fault_if (not (is_tiles_name cs q.name))

-- 392: set row; an earlier set row has its name (partner)
unfoldable pub of392 : Rows MatrixSet → MatrixSet → ℕ → Judgment
of392 ss q i = lowest (set_named q.name) ss i

-- 411: set row; no reference row has its srs_id
unfoldable pub of411 : Rows Reference → MatrixSet → Judgment
of411 rs q = unless_some (has_id q.srs_id) rs
