-- What a listing of any format is where no reason is there: header and tables follow each other without gaps, each table is whole and no longer than its most, and no row is at fault.
use Prim.Native.Nat.{ℕ, zero, suc, ◌+◌, ◌*◌, ◌<◌, ◌≤◌}
use Rattle.std.specs.Prelude.{◌≡◌, refl, Bool, true, false, ◌&&◌, ◌||◌, eqb, length, take, drop}
use Rattle.std.proofs.Math.Path.{sym}
use Rattle.std.proofs.Common.{ap, ◌∙◌, le_refl, zero-mul, arith, length-take, length-drop}
use mathlib.Core.List.{List, ◌++◌, append_assoc, append-nil}
use Rattle.std.proofs.Math.Bool.{not}
use Rattle.std.proofs.lemmas.Bool.{false≢true}
use Rattle.std.proofs.Math.Decide.{le_ind}
use Rattle.std.proofs.Math.Nat.{mul-div_cancel_left}
use borrow.Author.Tests.{lt-ltb, eq-eqb, eqb-true, ltb-false, not-false, le-leb}
use Rattle.std.proofs.Math.Seq.{take-add, take-length}
use Rattle.octets.specs.Octets.{part}
use Rattle.octets.specs.Search.{any}
use Rattle.octets.proofs.SearchLaws.{none-at}
use Rattle.octets.specs.Texts.{outside}
use Rattle.octets.specs.Texts.{Text}
use Rattle.octets.specs.Gather.{gather}
use Rattle.listing.specs.Formats.{row, most, metadata_row, metadata_most, edition, header_size, longest, table_count, row_in, most_in}
use Rattle.listing.specs.Listing.{version, total, count, offset, start, table_in, rows_as}
use Rattle.listing.specs.TableLaws.{row-none, tables-some, row_some_in, seven_in}
use Rattle.listing.specs.Refusals.{over, moved, ill, faulty_row, lowest_faulty_row, faulty_table, flagged, header_reasons, row_reasons, reasons_in}
use Rattle.listing.specs.ReasonLaws.{Free}
use Rattle.listing.specs.declared.Format.{Format}
use Rattle.listing.specs.declared.Format.TheVariants.{Edition1, Metadata}

or_left : (a b : Bool) → (a || b) ≡ false → a ≡ false
or_left true b e = e
or_left false b e = refl

or_right : (a b : Bool) → (a || b) ≡ false → b ≡ false
or_right true b e = absurd (false≢true (sym e))
or_right false b e = e

-- a table starts no earlier than the ones before it
start_grows_in : (f : Format) (s : List ℕ) (k n : ℕ) → k ≤ n → start f s k ≤ start f s n
unfolding start
start_grows_in f s k n l = le_ind (λ (m : ℕ). start f s k ≤ start f s m) (le_refl _) (λ m _ q. omega (arith, q)) n l

-- "the header and all tables at their most": what the longest listing has before table k
abbrev pub full_before : Format → ℕ → ℕ
full_before f zero = header_size f
full_before f (suc k) = full_before f k + row_in f k * most_in f k

pub longest_full : (f : Format) → full_before f (table_count f + 1) ≡ longest f
unfolding row most metadata_row metadata_most
longest_full Edition1 = refl
longest_full Metadata = refl

module _ (f : Format) (s : List ℕ) (a : Free (reasons_in f s)) where
  none_over : (k : ℕ) → k ≤ table_count f → over f s k ≡ false
  unfolding header_reasons
  none_over k h = none-at (over f s) (table_count f + 1) (a 4) k (omega arith)

  none-moved : (k : ℕ) → k ≤ table_count f → moved f s k ≡ false
  unfolding header_reasons
  none-moved k h = none-at (moved f s) (table_count f + 1) (a 5) k (omega arith)

  pub count-most_in : (k : ℕ) → 1 ≤ k → k ≤ table_count f → count s k ≤ most_in f k
  unfolding over
  count-most_in k l h = ltb-false (most_in f k) (count s k) (simp (lt-ltb 0 k l) at (none_over k h))

  -- the tables follow the header and each other without gaps
  pub offset_start_in : (k : ℕ) → 1 ≤ k → k ≤ table_count f → offset s k ≡ start f s k
  unfolding moved
  offset_start_in k l h =
      eqb-true (offset s k) (start f s k) (not-false _ (or_left _ (eqb k (table_count f) && not (eqb (start f s (table_count f + 1)) (length s))) (simp (lt-ltb 0 k l) at (none-moved k h))))

  pub final_end_in : start f s (table_count f + 1) ≡ length s
  unfolding moved
  final_end_in =
      eqb-true (start f s (table_count f + 1)) (length s)
      (not-false _ (or_right (not (eqb (offset s (table_count f)) (start f s (table_count f)))) _ (simp (lt-ltb 0 (table_count f) (omega (arith, tables-some f)), eq-eqb (table_count f) (table_count f) refl) at (none-moved (table_count f) (le_refl _)))))

  table-inside : (k : ℕ) → k ≤ table_count f → start f s k + row_in f k * count s k ≤ length s
  unfolding start
  table-inside k h = omega (arith, final_end_in, start_grows_in f s (suc k) (table_count f + 1) (omega arith))

  -- a table is the octets between its start and the next
  table_cut : (k : ℕ) → k ≤ table_count f → table_in f s k ≡ take (row_in f k * count s k) (drop (start f s k) s)
  unfolding table_in part
  table_cut zero h = (seven_in f s).none ∙ simp (row-none f, zero-mul)
  table_cut (suc k) h =
      let e : offset s (suc k) ≡ start f s (suc k) = offset_start_in (suc k) (omega arith) h in
      simp (e, le-leb (start f s (suc k) + row_in f (suc k) * count s (suc k)) (length s) (table-inside (suc k) h))

  -- whole rows, as many as the header says
  pub table_length_in : (k : ℕ) → k ≤ table_count f → length (table_in f s k) ≡ row_in f k * count s k
  table_length_in k h = simp (table_cut k h, length-take, length-drop) (omega (arith, table-inside k h))

  pub table-rows_in : (k : ℕ) → 1 ≤ k → k ≤ table_count f → rows_as f k (table_in f s k) ≡ count s k
  unfolding rows_as
  table-rows_in k l h = simp (table_length_in k h) (mul-div_cancel_left (count s k) (row_some_in f k l h))

  -- the header and the tables are the listing
  so_far : (k : ℕ) → k ≤ table_count f + 1 → take (start f s k) s ≡ take (header_size f) s ++ gather k (table_in f s)
  unfolding start
  so_far zero h = sym (append-nil (take (header_size f) s))
  so_far (suc k) h = take-add (start f s k) (row_in f k * count s k) s ∙ simp (so_far k (omega arith), append_assoc, ← table_cut k (omega arith))

  pub header_and_tables_in : take (header_size f) s ++ gather (table_count f + 1) (table_in f s) ≡ s
  header_and_tables_in = sym (so_far (table_count f + 1) (le_refl _)) ∙ ap (λ (n : ℕ). take n s) final_end_in ∙ take-length s

  -- no row has a text outside the names, or one that is not well-formed, and no flag is at fault
  no_row-by : (fault : Bool → Text → Bool) → any (faulty_table f fault (table_in f s)) (table_count f) ≡ false → (k i : ℕ) → 1 ≤ k → k < table_count f → i < rows_as f k (table_in f s k) → faulty_row f fault k (table_in f s k) i ≡ false
  unfolding faulty_table lowest_faulty_row any
  no_row-by fault e k i l h b = none-at (faulty_row f fault k (table_in f s k)) (rows_as f k (table_in f s k)) (simp (lt-ltb 0 k l) at (none-at (faulty_table f fault (table_in f s)) (table_count f) e k h)) i b

  pub no_bad_row_in : (k i : ℕ) → 1 ≤ k → k < table_count f → i < rows_as f k (table_in f s k) → faulty_row f (outside (length (table_in f s (table_count f)))) k (table_in f s k) i ≡ false
  unfolding header_reasons row_reasons
  no_bad_row_in = no_row-by (outside (length (table_in f s (table_count f)))) (a 6)

  pub no_ill_row_in : (k i : ℕ) → 1 ≤ k → k < table_count f → i < rows_as f k (table_in f s k) → faulty_row f (ill (table_in f s (table_count f))) k (table_in f s k) i ≡ false
  unfolding header_reasons row_reasons
  no_ill_row_in = no_row-by (ill (table_in f s (table_count f))) (a 8)

  pub none-flagged : (i : ℕ) → i < rows_as f 2 (table_in f s 2) → flagged f (table_in f s 2) i ≡ false
  unfolding header_reasons row_reasons
  none-flagged i b = none-at (flagged f (table_in f s 2)) (rows_as f 2 (table_in f s 2)) (a 7) i b

  -- the header is whole, of its version, and says the length
  pub header_room_in : header_size f ≤ length s
  unfolding header_reasons
  header_room_in = ltb-false (length s) (header_size f) (a 0)

  pub longest_in : length s ≤ longest f
  unfolding header_reasons
  longest_in = ltb-false (longest f) (length s) (a 1)

  pub version_in : version s ≡ edition f
  unfolding header_reasons
  version_in = eqb-true (version s) (edition f) (not-false _ (a 2))

  pub total_in : total s ≡ length s
  unfolding header_reasons
  total_in = eqb-true (total s) (length s) (not-false _ (a 3))
