-- The rules of 2026-05, "by Req 94 and 96 to 102" of 000, Annex F.8. "Codes are the number times ten plus five, partner none".
use Rattle.std.specs.Prelude.{ℕ, List, [], ◌∷◌, Bool, true, false, cond, not, ℤ, None, Some}
use Rattle.octets.specs.Numbers.{eq_z}
use Rattle.octets.specs.Search.{any}
use Rattle.octets.specs.Slices.{nth}
use Rattle.octets.specs.Texts.{Nullable, There, Null, same}
use Rattle.spelling.specs.Quoted.{quoted}
use Rattle.spelling.specs.Dates.{is_date}
use Rattle.pack.specs.Rows.{Rows, Content}
use Rattle.rules.specs.Judgments.{none, fault_if, unless_some, Judgment}
use Rattle.rules.specs.Contents.{content_named}
use Rattle.metadata.specs.Rows.{Note, Link}
use Rattle.metadata.specs.declared.Scope.{Scope}
use Rattle.metadata.specs.declared.Scope.TheVariants as scope

-- ---- notes
-- the names of Table 21, "case sensitive"
unfoldable pub note_scopes : List (List ℕ)
unfolding quoted
note_scopes =
    quoted "undefined" ∷ quoted "fieldSession" ∷ quoted "collectionSession" ∷ quoted "series" ∷ quoted "dataset"
    ∷ quoted "featureType" ∷ quoted "feature" ∷ quoted "attributeType" ∷ quoted "attribute" ∷ quoted "tile"
    ∷ quoted "model" ∷ quoted "catalog" ∷ quoted "schema" ∷ quoted "taxonomy" ∷ quoted "software"
    ∷ quoted "service" ∷ quoted "collectionHardware" ∷ quoted "nonGeographicDataset" ∷ quoted "dimensionGroup" ∷ []

unfoldable pub is_note_scope : List ℕ → ℕ → Bool
is_note_scope x k = same x (nth note_scopes k)

-- 945, Req 94: md_scope is one of them
unfoldable pub of945 : Note → Judgment
of945 n = fault_if (not (any (is_note_scope n.scope) 19))

-- a note has an id
unfoldable pub has_id : ℤ → Note → Bool
has_id id n = eq_z id n.id

-- ---- links
-- "one of 'geopackage', 'table', 'column', 'row', 'row/col' in lowercase", or none of them
unfoldable pub scope_of : List ℕ → Scope
unfolding quoted
scope_of x =
    cond (same x (quoted "geopackage")) scope.Geopackage
    (cond (same x (quoted "table")) scope.Table
    (cond (same x (quoted "column")) scope.Column
    (cond (same x (quoted "row")) scope.Row
    (cond (same x (quoted "row/col")) scope.RowColumn
    scope.Other))))

-- 965, Req 96
abbrev pub is_other : Scope → Bool
is_other scope.Other = true
is_other scope.Geopackage = false
is_other scope.Table = false
is_other scope.Column = false
is_other scope.Row = false
is_other scope.RowColumn = false

unfoldable pub of965 : Link → Judgment
of965 l = fault_if (is_other (scope_of l.scope))

-- a value that is to be NULL and is not, or is NULL where it is not to be: "only NULL or present is judged"
abbrev pub is_null : {A : Type 0} → Nullable A → Bool
is_null (There x) = false
is_null Null = true

abbrev pub wrongly : Bool → Bool → Bool
wrongly shall null = cond shall (not null) null

-- 975, Req 97: 'geopackage': table_name is NULL. "Every other row": "a table name must be in contents"
abbrev pub wants_no_table : Scope → Bool
wants_no_table scope.Geopackage = true
wants_no_table scope.Table = false
wants_no_table scope.Column = false
wants_no_table scope.Row = false
wants_no_table scope.RowColumn = false
wants_no_table scope.Other = false

abbrev pub in_contents : Rows Content → Nullable (List ℕ) → Judgment
in_contents cs (There x) = unless_some (content_named x) cs
in_contents cs Null = Some none

unfoldable pub of975 : Rows Content → Link → Judgment
of975 cs l = cond (wants_no_table (scope_of l.scope)) (fault_if (not (is_null l.table))) (in_contents cs l.table)

-- 985, Req 98: 'geopackage', 'table', 'row': column_name is NULL; every other row has one
abbrev pub wants_no_column : Scope → Bool
wants_no_column scope.Geopackage = true
wants_no_column scope.Table = true
wants_no_column scope.Column = false
wants_no_column scope.Row = true
wants_no_column scope.RowColumn = false
wants_no_column scope.Other = false

unfoldable pub of985 : Link → Judgment
of985 l = fault_if (wrongly (wants_no_column (scope_of l.scope)) (is_null l.column))

-- 995, Req 99: 'geopackage', 'table', 'column': row_id_value is NULL; every other row has one
abbrev pub wants_no_row : Scope → Bool
wants_no_row scope.Geopackage = true
wants_no_row scope.Table = true
wants_no_row scope.Column = true
wants_no_row scope.Row = false
wants_no_row scope.RowColumn = false
wants_no_row scope.Other = false

unfoldable pub of995 : Link → Judgment
of995 l = fault_if (wrongly (wants_no_row (scope_of l.scope)) (is_null l.row_id))

-- 1005, Req 100: "timestamps follow 151"
unfoldable pub of1005 : Link → Judgment
of1005 l = fault_if (not (is_date l.timestamp))

-- 1015, Req 101: md_file_id is the id of a note
unfoldable pub of1015 : Rows Note → Link → Judgment
of1015 ns l = unless_some (has_id l.file_id) ns

-- 1025, Req 102: md_parent_id, where it is present, is the id of a note, and not md_file_id
abbrev pub wrong_parent : Rows Note → ℤ → Nullable ℤ → Judgment
wrong_parent ns file (There parent) = cond (eq_z parent file) (Some none) (unless_some (has_id parent) ns)
wrong_parent ns file Null = None

unfoldable pub of1025 : Rows Note → Link → Judgment
of1025 ns l = wrong_parent ns l.file_id l.parent_id
