-- Both sides of each line of 2026-05: what the rules say of notes and links that are written out, and what a sibling listing's rows are refused for, as two tables with a single statement each.
use Rattle.std.specs.Prelude.{ℕ, suc, ◌≡◌, refl, List, [], ◌∷◌, ◌++◌, map, cond, eqb, ℤ, pos, None, Some, Ok, Err}
use Rattle.octets.specs.Octets.{le32, le64, part}
use Rattle.octets.specs.Search.{first, any}
use Rattle.octets.specs.Slices.{nth}
use Rattle.octets.specs.Texts.{Nullable, There, Null, same, text_at}
use Rattle.utf8.specs.Utf8.{in_range, table37, size, well_formed}
use Rattle.spelling.specs.Characters.{between}
use Rattle.spelling.specs.Quoted.{quoted}
use Rattle.spelling.specs.Dates.{form, fits, misfit, two_digits, four_digits, leap, month_lengths, common_length, leap_february, month_length, in_calendar, on_clock, is_date}
use Rattle.listing.specs.Formats.{metadata_row, metadata_base, metadata_texts, metadata_null_from, metadata_null_end}
use Rattle.listing.specs.Listing.{rows_as}
use Rattle.listing.specs.Refusals.{faulty_text, faulty_row, lowest_faulty_row, faulty_table, bad_link, row_reasons, Checked, refusal, checked}
use Rattle.listing.specs.declared.Why.TheVariants as why
use Rattle.listing.specs.declared.Format.TheVariants.{Metadata}
use Rattle.pack.specs.Rows.{Rows, Content}
use Rattle.rules.specs.Judgments.{none, Judgment}
use Rattle.rules.specs.Contents.{content_named}
use Rattle.metadata.specs.Rows.{Note, Link}
use Rattle.metadata.specs.Rules.{note_scopes, is_note_scope, scope_of, has_id, of945, of965, of975, of985, of995, of1005, of1015, of1025}

-- ---- the rules
abbrev good : Judgment
good = None

abbrev bad : Judgment
bad = Some none

-- one contents row, "farm", and the notes 1 and 2
abbrev contents : Rows Content
contents = record { count = 1; row = λ _. record { name = quoted "farm"; data_type = quoted "features"; last_change = []; srs_id = Null } }

abbrev notes : Rows Note
notes = record { count = 2; row = λ i. record { id = pos (suc i); scope = quoted "dataset" } }

abbrev scoped : List ℕ → Note
scoped x = record { id = pos 1; scope = x }

abbrev about : List ℕ → Nullable (List ℕ) → Nullable (List ℕ) → Nullable ℤ → Link
about x t c r = record { scope = x; table = t; column = c; timestamp = quoted "2024-02-29T00:00:00.000Z"; row_id = r; file_id = pos 1; parent_id = Null }

abbrev of : ℤ → Nullable ℤ → Link
of file parent = record { scope = quoted "geopackage"; table = Null; column = Null; timestamp = quoted "2023-02-29T00:00:00.000Z"; row_id = Null; file_id = file; parent_id = parent }

abbrev farm : Nullable (List ℕ)
farm = There (quoted "farm")

abbrev rules : List (Judgment × Judgment)
rules =
    -- Req 94: the names of Table 21, case sensitive; 'style' is of later editions
    (of945 (scoped (quoted "undefined")), good)
    ∷ (of945 (scoped (quoted "dimensionGroup")), good)
    ∷ (of945 (scoped (quoted "style")), bad)
    ∷ (of945 (scoped (quoted "Dataset")), bad)
    ∷ (of945 (scoped []), bad)
    -- Req 96: lowercase
    ∷ (of965 (about (quoted "row/col") Null Null Null), good)
    ∷ (of965 (about (quoted "Table") Null Null Null), bad)
    -- Req 97: NULL for 'geopackage' alone; else in contents, of any data type; an empty text is present
    ∷ (of975 contents (about (quoted "geopackage") Null Null Null), good)
    ∷ (of975 contents (about (quoted "geopackage") (There []) Null Null), bad)
    ∷ (of975 contents (about (quoted "table") farm Null Null), good)
    ∷ (of975 contents (about (quoted "table") Null Null Null), bad)
    ∷ (of975 contents (about (quoted "row") (There (quoted "barn")) Null Null), bad)
    ∷ (of975 contents (about (quoted "Table") farm Null Null), good)
    ∷ (of975 contents (about (quoted "Table") Null Null Null), bad)
    -- Req 98: NULL for 'geopackage', 'table' and 'row'
    ∷ (of985 (about (quoted "table") farm Null Null), good)
    ∷ (of985 (about (quoted "table") farm (There []) Null), bad)
    ∷ (of985 (about (quoted "row") farm Null Null), good)
    ∷ (of985 (about (quoted "column") farm (There []) Null), good)
    ∷ (of985 (about (quoted "row/col") farm Null Null), bad)
    ∷ (of985 (about (quoted "Table") farm Null Null), bad)
    -- Req 99: NULL for 'geopackage', 'table' and 'column'; 0 is present
    ∷ (of995 (about (quoted "column") farm Null Null), good)
    ∷ (of995 (about (quoted "column") farm Null (There (pos 0))), bad)
    ∷ (of995 (about (quoted "row") farm Null (There (pos 0))), good)
    ∷ (of995 (about (quoted "row") farm Null Null), bad)
    ∷ (of995 (about (quoted "Table") farm Null Null), bad)
    -- Req 100, as 151
    ∷ (of1005 (about (quoted "table") farm Null Null), good)
    ∷ (of1005 (of (pos 1) Null), bad)
    -- Req 101, 102: an id of a note; a parent that is present is another note's
    ∷ (of1015 notes (of (pos 2) Null), good)
    ∷ (of1015 notes (of (pos 3) Null), bad)
    ∷ (of1025 notes (of (pos 1) Null), good)
    ∷ (of1025 notes (of (pos 1) (There (pos 2))), good)
    ∷ (of1025 notes (of (pos 1) (There (pos 1))), bad)
    ∷ (of1025 notes (of (pos 1) (There (pos 0))), bad)
    ∷ (of1025 notes (of (pos 3) (There (pos 3))), bad)
    ∷ []

pub rules-worked : map (λ l. l.0) rules ≡ map (λ l. l.1) rules
unfolding between quoted first any same nth form fits misfit two_digits four_digits leap month_lengths common_length leap_february month_length in_calendar on_clock is_date content_named note_scopes is_note_scope scope_of has_id of945 of965 of975 of985 of995 of1005 of1015 of1025
rules-worked = refl

-- ---- the refusals of rows
-- a text's two numbers, below 256, and an i64 below 256
abbrev at : ℕ → ℕ → List ℕ
at start len = start ∷ 0 ∷ 0 ∷ 0 ∷ len ∷ 0 ∷ 0 ∷ 0 ∷ []

abbrev no_text : List ℕ
no_text = 255 ∷ 255 ∷ 255 ∷ 255 ∷ 0 ∷ 0 ∷ 0 ∷ 0 ∷ []

abbrev empty : List ℕ
empty = at 0 0

abbrev note_with : List ℕ → List ℕ
note_with scope = at 1 0 ++ scope

abbrev link_with : List ℕ → List ℕ → List ℕ → List ℕ → ℕ → ℕ → ℕ → ℕ → List ℕ
link_with scope table column timestamp row parent flags spare = scope ++ table ++ column ++ timestamp ++ at row 0 ++ at 1 0 ++ at parent 0 ++ (flags ∷ 0 ∷ 0 ∷ 0 ∷ spare ∷ 0 ∷ 0 ∷ 0 ∷ [])

abbrev said : List ℕ → List ℕ → List ℕ → Checked
said ns ls names = checked (row_reasons Metadata (λ k. cond (eqb k 1) ns (cond (eqb k 2) ls (cond (eqb k 3) names []))))

abbrev refusals : List (Checked × Checked)
refusals =
    -- NULL for table_name and column_name of table 12 alone
    (said (note_with empty) (link_with empty no_text no_text empty 0 0 0 0) [], Ok tt)
    ∷ (said (note_with no_text) [] [], Err (refusal why.Outside 11 0))
    ∷ (said [] (link_with no_text empty empty empty 0 0 0 0) [], Err (refusal why.Outside 12 0))
    ∷ (said [] (link_with empty empty empty no_text 0 0 0 0) [], Err (refusal why.Outside 12 0))
    -- a text outside; the lowest table, then the lowest row
    ∷ (said (note_with (at 0 1)) [] (0x61 ∷ []), Ok tt)
    ∷ (said (note_with empty ++ note_with (at 1 1)) (link_with (at 1 1) empty empty empty 0 0 0 0) (0x61 ∷ []), Err (refusal why.Outside 11 1))
    -- flags above 3, spare not 0, an absent number not 0
    ∷ (said [] (link_with empty empty empty empty 0 0 3 0) [], Ok tt)
    ∷ (said [] (link_with empty empty empty empty 0 0 4 0) [], Err (refusal why.Flags 12 0))
    ∷ (said [] (link_with empty empty empty empty 0 0 0 1) [], Err (refusal why.Flags 12 0))
    ∷ (said [] (link_with empty empty empty empty 5 0 1 0) [], Ok tt)
    ∷ (said [] (link_with empty empty empty empty 5 0 2 0) [], Err (refusal why.Flags 12 0))
    ∷ (said [] (link_with empty empty empty empty 0 5 2 0) [], Ok tt)
    ∷ (said [] (link_with empty empty empty empty 0 5 1 0) [], Err (refusal why.Flags 12 0))
    -- all of 7, then all of 8, then all of 13
    ∷ (said (note_with (at 0 1)) [] (0xFF ∷ []), Err (refusal why.IllFormed 11 0))
    ∷ (said (note_with (at 0 1)) (link_with empty empty empty empty 0 0 4 0) (0xFF ∷ []), Err (refusal why.Flags 12 0))
    ∷ (said (note_with (at 0 1)) (link_with empty empty empty (at 0 2) 0 0 4 0) (0xFF ∷ []), Err (refusal why.Outside 12 0))
    ∷ []

pub refusals-worked : map (λ l. l.0) refusals ≡ map (λ l. l.1) refusals
unfolding le32 le64 part first any text_at in_range table37 size well_formed metadata_row metadata_base metadata_texts metadata_null_from metadata_null_end rows_as faulty_text faulty_row lowest_faulty_row faulty_table bad_link row_reasons checked
refusals-worked = refl
