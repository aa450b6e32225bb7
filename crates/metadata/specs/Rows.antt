-- The metadata: what the tables 11 and 12 of a sibling listing say, and the contents of the tile listing beside it. Every rule of 2026-05 is on this alone.
use Rattle.std.specs.Prelude.{ℕ, List, cond, eqb, ℤ}
use Rattle.octets.specs.Texts.{Nullable}
use Rattle.pack.specs.Rows.{Rows, Content}

-- 11: gpkg_metadata, here notes. "id i64, md_scope text"
pub record Note : Type 0 where
  pub id : ℤ
  pub scope : List ℕ

-- 12: gpkg_metadata_reference, here links, each from a note to what it is about. "reference_scope, table_name, column_name and timestamp texts, row_id_value, md_file_id and md_parent_id i64"
pub record Link : Type 0 where
  pub scope : List ℕ
  pub table : Nullable (List ℕ)
  pub column : Nullable (List ℕ)
  pub timestamp : List ℕ
  pub row_id : Nullable ℤ
  pub file_id : ℤ
  pub parent_id : Nullable ℤ

pub record Notebook : Type 0 where
  pub contents : Rows Content
  pub notes : Rows Note
  pub links : Rows Link

-- how many rows a table has, by its number
unfoldable pub rows_of : Notebook → ℕ → ℕ
rows_of p t = cond (eqb t 11) p.notes.count (cond (eqb t 12) p.links.count 0)
