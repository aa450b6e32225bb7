-- What the octets of the two tables mean: fields in order. A row is first what the code reads, numbers and places of texts; what that means, with the names, is a note or a link.
use Rattle.std.specs.Prelude.{ℕ, ◌+◌, ◌*◌, ◌/◌, ◌%◌, List, [], ◌∷◌, cond, ltb, eqb, length, None}
use Rattle.octets.specs.Octets.{le32, le64}
use Rattle.octets.specs.Numbers.{signed}
use Rattle.octets.specs.Slices.{nth}
use Rattle.octets.specs.Texts.{There, Null, text_at, name_at, spell, reads}
use Rattle.listing.specs.Listing.{table_in, table}
use Rattle.listing.specs.declared.Format.TheVariants.{Metadata}
use Rattle.pack.specs.Rows.{Rows}
use Rattle.pack.specs.Tables.{no_name, contents_of}
use Rattle.metadata.specs.Rows.{Note, Link, Notebook}
use Rattle.metadata.specs.declared.NoteRow.{NoteRow}
use Rattle.metadata.specs.declared.LinkRow.{LinkRow}

-- ---- what stands at a place
-- 11: id i64, md_scope text
unfoldable pub note_at : List ℕ → ℕ → NoteRow
note_at s at = record { id = le64 s at; scope = name_at s (at + 8) }

-- 12: reference_scope, table_name, column_name and timestamp texts, row_id_value, md_file_id and md_parent_id i64, flags u32, spare u32
unfoldable pub link_at : List ℕ → ℕ → LinkRow
link_at s at = record {
  scope = name_at s at;
  table = text_at s (at + 8);
  column = text_at s (at + 16);
  timestamp = name_at s (at + 24);
  row_id = le64 s (at + 32);
  file_id = le64 s (at + 40);
  parent_id = le64 s (at + 48);
  flags = le32 s (at + 56);
}

-- past the last row
abbrev pub no_note : NoteRow
no_note = record { id = 0; scope = no_name }

abbrev pub no_link : LinkRow
no_link = record { scope = no_name; table = None; column = None; timestamp = no_name; row_id = 0; file_id = 0; parent_id = 0; flags = 0 }

-- row i of a table's octets
unfoldable pub note_row : List ℕ → ℕ → NoteRow
note_row t i = cond (ltb i (length t / 16)) (note_at t (16 * i)) no_note

unfoldable pub link_row : List ℕ → ℕ → LinkRow
link_row t i = cond (ltb i (length t / 64)) (link_at t (64 * i)) no_link

-- ---- what a row means, with the octets of the names
unfoldable pub note_of : List ℕ → NoteRow → Note
note_of names r = record { id = signed r.id; scope = spell names r.scope }

-- "flags u32 (1 row id present, 2 parent present)"
unfoldable pub link_of : List ℕ → LinkRow → Link
link_of names r = record {
  scope = spell names r.scope;
  table = reads names r.table;
  column = reads names r.column;
  timestamp = spell names r.timestamp;
  row_id = cond (eqb (r.flags % 2) 0) Null (There (signed r.row_id));
  file_id = signed r.file_id;
  parent_id = cond (ltb r.flags 2) Null (There (signed r.parent_id));
}

abbrev pub notes_of : List ℕ → List ℕ → Rows Note
notes_of t names = record { count = length t / 16; row = λ i. note_of names (note_row t i) }

abbrev pub links_of : List ℕ → List ℕ → Rows Link
links_of t names = record { count = length t / 64; row = λ i. link_of names (link_row t i) }

-- ---- the five tables that are judged by: contents and names of the tile listing, notes, links and names of its sibling
unfoldable pub tables_for : List ℕ → List ℕ → List (List ℕ)
tables_for s m = table s 2 ∷ table s 7 ∷ table_in Metadata m 1 ∷ table_in Metadata m 2 ∷ table_in Metadata m 3 ∷ []

abbrev pub notebook_in : List (List ℕ) → Notebook
notebook_in ts = record { contents = contents_of (nth ts 0) (nth ts 1); notes = notes_of (nth ts 2) (nth ts 4); links = links_of (nth ts 3) (nth ts 4) }

-- of a tile listing and its sibling
unfoldable pub notebook_of : List ℕ → List ℕ → Notebook
notebook_of s m = notebook_in (tables_for s m)
