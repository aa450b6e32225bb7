-- What an accepted sibling listing is: header and tables follow each other without gaps, each table is whole and no longer than its most, and no row is at fault.
use Rattle.std.specs.Prelude.{ℕ, ◌*◌, ◌<◌, ◌≤◌, ◌≡◌, List, ◌++◌, Bool, eqb, length, take}
use Rattle.std.proofs.Common.{sym, ◌∙◌, append_assoc}
use Rattle.std.proofs.Math.Bool.{true, false, cond}
use native.Mathlib.Omega.{arith}
use Rattle.octets.specs.Slices.{nth}
use Rattle.octets.specs.Texts.{outside}
use Rattle.listing.specs.Formats.{metadata_row, metadata_most}
use Rattle.listing.specs.Listing.{count, table_in, rows_as}
use Rattle.listing.specs.TableLaws.{seven_in}
use Rattle.listing.specs.Refusals.{ill, faulty_row, bad_link, reasons_in, is_accepted}
use Rattle.listing.specs.ReasonLaws.{Free}
use Rattle.listing.specs.FormatLaws.{count-most_in, table_length_in, table-rows_in, header_and_tables_in, no_bad_row_in, no_ill_row_in, none-flagged}
use Rattle.listing.specs.declared.Format.TheVariants.{Metadata}
use Rattle.metadata.specs.Rows.{rows_of}
use Rattle.metadata.specs.Tables.{tables_for, notebook_of}
use Rattle.metadata.specs.Refusals.{metadata_outcome}
use Rattle.metadata.specs.RefusalLaws.{accepted_metadata}

module _ (m : List ℕ) (free : Free (reasons_in Metadata m)) where
  pub count_most : (k : ℕ) → 1 ≤ k → k ≤ 3 → count m k ≤ metadata_most k
  count_most = count-most_in Metadata m free

  -- whole rows, as many as the header says
  pub table-length : (k : ℕ) → k ≤ 3 → length (table_in Metadata m k) ≡ metadata_row k * count m k
  table-length = table_length_in Metadata m free

  pub table-rows : (k : ℕ) → 1 ≤ k → k ≤ 3 → rows_as Metadata k (table_in Metadata m k) ≡ count m k
  table-rows = table-rows_in Metadata m free

  -- the header and the tables are the listing
  pub listing_whole : m ≡ take 32 m ++ table_in Metadata m 1 ++ table_in Metadata m 2 ++ table_in Metadata m 3
  listing_whole = sym (header_and_tables_in Metadata m free) ∙ simp ((seven_in Metadata m).none, append_assoc)

  -- no text is outside the names, or NULL but for table_name and column_name of table 12, or not well-formed
  pub no_bad_row : (k i : ℕ) → 1 ≤ k → k < 3 → i < rows_as Metadata k (table_in Metadata m k) → faulty_row Metadata (outside (length (table_in Metadata m 3))) k (table_in Metadata m k) i ≡ false
  no_bad_row = no_bad_row_in Metadata m free

  pub no_ill_row : (k i : ℕ) → 1 ≤ k → k < 3 → i < rows_as Metadata k (table_in Metadata m k) → faulty_row Metadata (ill (table_in Metadata m 3)) k (table_in Metadata m k) i ≡ false
  no_ill_row = no_ill_row_in Metadata m free

  pub no_bad_link : (i : ℕ) → i < rows_as Metadata 2 (table_in Metadata m 2) → bad_link (table_in Metadata m 2) i ≡ false
  no_bad_link = none-flagged Metadata m free

-- ---- the counts: so no row has the number that means none
module _ (s m : List ℕ) (a : is_accepted (metadata_outcome s m) ≡ true) where
  pub notes-most : (notebook_of s m).notes.count ≤ 256
  unfolding notebook_of tables_for nth rows_as metadata_row metadata_most
  notes-most = omega (arith, table-rows m (accepted_metadata s m a) 1 (omega arith) (omega arith), count_most m (accepted_metadata s m a) 1 (omega arith) (omega arith))

  pub links-most : (notebook_of s m).links.count ≤ 4096
  unfolding notebook_of tables_for nth rows_as metadata_row metadata_most
  links-most = omega (arith, table-rows m (accepted_metadata s m a) 2 (omega arith) (omega arith), count_most m (accepted_metadata s m a) 2 (omega arith) (omega arith))

  pub rows-most : (t : ℕ) → rows_of (notebook_of s m) t ≤ 4096
  unfolding rows_of
  rows-most t = by (eqb t 11) (eqb t 12)
    where
      by : (b c : Bool) → cond b (notebook_of s m).notes.count (cond c (notebook_of s m).links.count 0) ≤ 4096
      by true c = omega (arith, notes-most)
      by false true = links-most
      by false false = omega arith
