-- "Other column contents are judged as the tile rows they spell": the pack of columns is that of the rows, and 7 and 13 of the entries are those that the reader finds in these rows.
use Prim.Native.Nat.{ℕ, zero, suc, ◌+◌, ◌*◌, ◌/◌, ◌^◌, ◌<◌, ◌≤◌}
use Rattle.std.specs.Prelude.{◌≡◌, refl, List, ◌++◌, Bool, true, false, cond, ltb, length, get_or}
use Rattle.std.proofs.Math.Path.{sym, ap}
use Rattle.std.proofs.Common.{◌∙◌}
use Rattle.std.proofs.Math.Nat.{mul_comm}
use native.Mathlib.Omega.{arith}
use borrow.Author.Tests.{lt-ltb, ltb-false}
use Rattle.std.proofs.Math.ListN.{length-append}
use Rattle.octets.specs.Octets.{le32, le64, part}
use Rattle.octets.specs.Gather.{gather}
use Rattle.octets.specs.Search.{first, any}
use Rattle.octets.specs.Slices.{nth}
use Rattle.octets.specs.Texts.{text_of, text_at, outside}
use Rattle.octets.specs.Texts.{Text}
use Rattle.listing.specs.Listing.{row, table, tables_of, rows}
use Rattle.listing.specs.Refusals.{ill, text_base, text_count, null_count, faulty_text, faulty_row}
use Rattle.listing.specs.declared.Format.TheVariants.{Edition1}
use Rattle.pack.specs.Rows.{Rows, Tile}
use Rattle.pack.specs.Columns.{entries, entry_at, entry_count}
use Rattle.pack.specs.Tables.{tile_at, tile_row, entry_row, tile_count, tile_in, tile_of, tiles_in, with_tiles, references_of, contents_of, sets_of, matrices_of, extensions_of, pack_in, pack_of}
use Rattle.pack.specs.PackLaws.{SameRows, rows_equal, tiles-past}
use Rattle.pack.specs.declared.Form.TheVariants as form
use Rattle.columns.specs.Refusals.{is_short, faulty_entry}
use Rattle.columns.specs.FillLaws.{or-none}
use Rattle.columns.specs.EntryLaws.{start_of, length-of, entry-outside, entry-ill}
use Rattle.octets.specs.RunLaws.{le32-small, le32-front, le32-behind, length_part, le32-part, le64-part, gather-size, le32-gather}
use Rattle.columns.specs.Tiles.{read, column_tables, column_pack, spelled_row, spelled_rows, respelled}

-- each of four columns has room for n entries
abbrev pub Long : ℕ → List (List ℕ) → Type 0
Long n cs = (k : ℕ) → k < 4 → 8 * n ≤ length (nth cs k)

pub long-by : (n : ℕ) (cs : List (List ℕ)) → is_short n cs ≡ false → Long n cs
unfolding is_short entries
long-by n cs h = each
  where
    w : (ltb (length (nth cs 0) / 8) n ≡ false) × (ltb (length (nth cs 1) / 8) n ≡ false) × (ltb (length (nth cs 2) / 8) n ≡ false) × (ltb (length (nth cs 3) / 8) n ≡ false)
    w = or-none (ltb (length (nth cs 0) / 8) n) (ltb (length (nth cs 1) / 8) n) (ltb (length (nth cs 2) / 8) n) (ltb (length (nth cs 3) / 8) n) h

    room : (c : List ℕ) → ltb (length c / 8) n ≡ false → 8 * n ≤ length c
    room c e = omega (arith, ltb-false (length c / 8) n e)

    each : (k : ℕ) → k < 4 → 8 * n ≤ length (nth cs k)
    each zero l = room (nth cs 0) w.0
    each (suc zero) l = room (nth cs 1) w.1
    each (suc (suc zero)) l = room (nth cs 2) w.2
    each (suc (suc (suc zero))) l = room (nth cs 3) w.3
    each (suc (suc (suc (suc k)))) l = absurd (omega (arith, l))

-- ---- the words of the rows that columns spell
module _ (cs : List (List ℕ)) (n : ℕ) (r : Long n cs) where
  module _ (i : ℕ) (l : i < n) where
    abbrev p₀ : List ℕ
    p₀ = part (nth cs 0) (8 * i + 4) 4

    abbrev p₁ : List ℕ
    p₁ = part (nth cs 0) (8 * i) 4

    abbrev number : ℕ → List ℕ
    number k = part (nth cs (suc k)) (8 * i) 8

    l₀ : length p₀ ≡ 4
    l₀ = length_part (nth cs 0) (8 * i + 4) 4 (omega (arith, r 0 (omega arith)))

    l₁ : length p₁ ≡ 4
    l₁ = length_part (nth cs 0) (8 * i) 4 (omega (arith, r 0 (omega arith)))

    number-length : (k : ℕ) → k < 3 → length (number k) ≡ 8
    number-length k m = length_part (nth cs (suc k)) (8 * i) 8 (omega (arith, r (suc k) (omega arith)))

    row-length : length (spelled_row cs i) ≡ 32
    unfolding spelled_row
    row-length = length-append p₀ (p₁ ++ gather 3 number) ∙ omega (arith, l₀, l₁, length-append p₁ (gather 3 number), gather-size 3 8 number number-length)

    row-start : le32 (spelled_row cs i) 0 ≡ le32 (nth cs 0) (8 * i + 4)
    unfolding spelled_row
    row-start =
        let z : 8 * i + 4 + 0 ≡ 8 * i + 4 = omega arith in
        le32-front p₀ (p₁ ++ gather 3 number) 0 (omega (arith, l₀)) ∙ le32-part (nth cs 0) (8 * i + 4) 4 0 (omega (arith, r 0 (omega arith))) (omega arith) ∙ ap (le32 (nth cs 0)) z

    row_len : le32 (spelled_row cs i) 4 ≡ le32 (nth cs 0) (8 * i)
    unfolding spelled_row
    row_len =
        let z : 8 * i + 0 ≡ 8 * i = omega arith in
        le32-behind p₀ (p₁ ++ gather 3 number) 4 0 l₀ ∙ le32-front p₁ (gather 3 number) 0 (omega (arith, l₁)) ∙ le32-part (nth cs 0) (8 * i) 4 0 (omega (arith, r 0 (omega arith))) (omega arith) ∙ ap (le32 (nth cs 0)) z

    -- of the other three the lower word, at 0, and the upper one, at 4
    row_number : (k at : ℕ) → k < 3 → at + 4 ≤ 8 → le32 (spelled_row cs i) (8 + (k * 8 + at)) ≡ le32 (nth cs (suc k)) (8 * i + at)
    unfolding spelled_row
    row_number k at m f =
        let z : 8 + (k * 8 + at) ≡ 4 + (4 + (k * 8 + at)) = omega arith in
        ap (le32 (p₀ ++ (p₁ ++ gather 3 number))) z ∙ le32-behind p₀ (p₁ ++ gather 3 number) 4 (4 + (k * 8 + at)) l₀ ∙ le32-behind p₁ (gather 3 number) 4 (k * 8 + at) l₁
        ∙ le32-gather 3 8 k at number number-length m f ∙ le32-part (nth cs (suc k)) (8 * i) 8 at (omega (arith, r (suc k) (omega arith))) f

  spelled-length : length (spelled_rows cs n) ≡ 32 * n
  unfolding spelled_rows
  spelled-length = gather-size n 32 (spelled_row cs) (λ k l. row-length k l) ∙ mul_comm n 32

  module _ (i : ℕ) (l : i < n) where
    -- a word of row i stands in the rows
    word_of : (at : ℕ) → at + 4 ≤ 32 → le32 (spelled_rows cs n) (32 * i + at) ≡ le32 (spelled_row cs i) at
    unfolding spelled_rows
    word_of at m = ap (λ (k : ℕ). le32 (gather n (spelled_row cs)) (k + at)) (mul_comm 32 i) ∙ le32-gather n 32 i at (spelled_row cs) (λ k q. row-length k q) l m

    spelled-start : le32 (spelled_rows cs n) (32 * i) ≡ le32 (nth cs 0) (8 * i + 4)
    spelled-start = let z : 32 * i ≡ 32 * i + 0 = omega arith in ap (le32 (spelled_rows cs n)) z ∙ word_of 0 (omega arith) ∙ row-start i l

    spelled_len : le32 (spelled_rows cs n) (32 * i + 4) ≡ le32 (nth cs 0) (8 * i)
    spelled_len = word_of 4 (omega arith) ∙ row_len i l

    spelled-word : (k at : ℕ) → k < 3 → at + 4 ≤ 8 → le32 (spelled_rows cs n) (32 * i + 8 * suc k + at) ≡ le32 (nth cs (suc k)) (8 * i + at)
    spelled-word k at m f =
        let z : 32 * i + 8 * suc k + at ≡ 32 * i + (8 + (k * 8 + at)) = omega arith in
        ap (le32 (spelled_rows cs n)) z ∙ word_of (8 + (k * 8 + at)) (omega arith) ∙ row_number i l k at m f

    spelled-number : (k : ℕ) → k < 3 → le64 (spelled_rows cs n) (32 * i + 8 * suc k) ≡ le64 (nth cs (suc k)) (8 * i)
    unfolding le64
    spelled-number k m =
        let z : 32 * i + 8 * suc k ≡ 32 * i + 8 * suc k + 0 = omega arith in
        let w : 8 * i + 0 ≡ 8 * i = omega arith in
        ap (λ (x : ℕ). x + 4294967296 * le32 (spelled_rows cs n) (32 * i + 8 * suc k + 4)) (ap (le32 (spelled_rows cs n)) z ∙ spelled-word k 0 m (omega arith) ∙ ap (le32 (nth cs (suc k))) w)
        ∙ ap (λ (x : ℕ). le32 (nth cs (suc k)) (8 * i) + 4294967296 * x) (spelled-word k 4 m (omega arith))

    -- row i is entry i
    spelled-tile : le32 (nth cs 0) (8 * i) < 2 ^ 32 → tile_at (spelled_rows cs n) (32 * i) ≡ entry_at (nth cs 0) (nth cs 1) (nth cs 2) (nth cs 3) (8 * i)
    unfolding tile_at entry_at
    spelled-tile h =
        rw (spelled-start, spelled_len, spelled-number 0 (omega arith), spelled-number 1 (omega arith), spelled-number 2 (omega arith), start_of (nth cs 0) (8 * i) h, length-of (nth cs 0) (8 * i) h)

    -- what is read of the columns has the same entry
    pub read_number : (k : ℕ) → k < 4 → le64 (part (nth cs k) 0 (8 * n)) (8 * i) ≡ le64 (nth cs k) (8 * i)
    read_number k m = let z : 0 + 8 * i ≡ 8 * i = omega arith in le64-part (nth cs k) 0 (8 * n) (8 * i) (omega (arith, r k m)) (omega arith) ∙ ap (le64 (nth cs k)) z

    read-tile : entry_at (part (nth cs 0) 0 (8 * n)) (part (nth cs 1) 0 (8 * n)) (part (nth cs 2) 0 (8 * n)) (part (nth cs 3) 0 (8 * n)) (8 * i) ≡ entry_at (nth cs 0) (nth cs 1) (nth cs 2) (nth cs 3) (8 * i)
    unfolding entry_at
    read-tile = rw (read_number 0 (omega arith), read_number 1 (omega arith), read_number 2 (omega arith), read_number 3 (omega arith))

  -- of each column n entries are read
  read_length : (k : ℕ) → k < 4 → length (part (nth cs k) 0 (8 * n)) ≡ 8 * n
  read_length k m = length_part (nth cs k) 0 (8 * n) (omega (arith, r k m))

  read_count : entry_count (part (nth cs 0) 0 (8 * n)) (part (nth cs 1) 0 (8 * n)) (part (nth cs 2) 0 (8 * n)) (part (nth cs 3) 0 (8 * n)) ≡ n
  unfolding entry_count entries
  read_count = omega (arith, read_length 0 (omega arith), read_length 1 (omega arith), read_length 2 (omega arith), read_length 3 (omega arith))

  spelled_count : length (spelled_rows cs n) / 32 ≡ n
  spelled_count = omega (arith, spelled-length)

  entry-same : (i : ℕ) → i < n → le32 (nth cs 0) (8 * i) < 2 ^ 32
      → entry_row (part (nth cs 0) 0 (8 * n)) (part (nth cs 1) 0 (8 * n)) (part (nth cs 2) 0 (8 * n)) (part (nth cs 3) 0 (8 * n)) i ≡ tile_row (spelled_rows cs n) i
  unfolding entry_row tile_row
  entry-same i l h = simp (read_count, spelled_count, lt-ltb i n l) (read-tile i l ∙ sym (spelled-tile i l h))

-- ---- the packs
module _ (s : List ℕ) (cs : List (List ℕ)) where
  same-tiles : Long (rows 5 (table s 5)) cs → ((i : ℕ) → i < rows 5 (table s 5) → le32 (nth cs 0) (8 * i) < 2 ^ 32)
      → SameRows (tiles_in form.Columns (column_tables s cs) (table s 7)) (tiles_in form.Rows (respelled s cs) (table s 7))
  unfolding column_tables read with_tiles nth respelled tile_count tile_in
  same-tiles r p = record {
    counts = read_count cs (rows 5 (table s 5)) r ∙ sym (spelled_count cs (rows 5 (table s 5)) r);
    rows = λ i l. let b : i < rows 5 (table s 5) = omega (arith, l, read_count cs (rows 5 (table s 5)) r) in ap (tile_of (table s 7)) (entry-same cs (rows 5 (table s 5)) r i b (p i b));
  }

  -- where each entry has a word for its length
  pub pack_by : Long (rows 5 (table s 5)) cs → ((i : ℕ) → i < rows 5 (table s 5) → le32 (nth cs 0) (8 * i) < 2 ^ 32) → column_pack s cs ≡ pack_in form.Rows (respelled s cs)
  unfolding column_pack column_tables read with_tiles tables_of nth respelled
  pack_by r p = ap (λ (x : Rows Tile). record {
    references = references_of (table s 1) (table s 7);
    contents = contents_of (table s 2) (table s 7);
    sets = sets_of (table s 3) (table s 7);
    matrices = matrices_of (table s 4) (table s 7);
    tiles = x;
    extensions = extensions_of (table s 6) (table s 7);
  }) (rows_equal (tiles_in form.Columns (column_tables s cs) (table s 7)) (tiles_in form.Rows (respelled s cs) (table s 7)) _ (tiles-past form.Columns (column_tables s cs) (table s 7)) (tiles-past form.Rows (respelled s cs) (table s 7)) (same-tiles r p))

  -- "other column contents are judged as the tile rows they spell"
  pub spelled_pack : is_short (rows 5 (table s 5)) cs ≡ false → ((k : ℕ) → get_or (nth cs 0) k 0 < 256) → column_pack s cs ≡ pack_in form.Rows (respelled s cs)
  spelled_pack h p = pack_by (long-by (rows 5 (table s 5)) cs h) (λ i l. le32-small (nth cs 0) (8 * i) p)

  -- so as those of a listing that has these rows, and all else alike
  pub spelled_listing : is_short (rows 5 (table s 5)) cs ≡ false → ((k : ℕ) → get_or (nth cs 0) k 0 < 256) → (t : List ℕ) → tables_of t ≡ respelled s cs → column_pack s cs ≡ pack_of t
  unfolding pack_of
  spelled_listing h p t e = spelled_pack h p ∙ ap (pack_in form.Rows) (sym e)

-- ---- 7 and 13
any-one : (p : ℕ → Bool) → any p 1 ≡ p 0
unfolding any first
any-one p = by (p 0)
  where
    by : (b : Bool) → ltb (cond (ltb 0 0) 0 (cond b 0 1)) 1 ≡ b
    by true = refl
    by false = refl

-- row i of some tile rows has a fault where its one text has
pub tile_fault : (fault : Bool → Text → Bool) (t : List ℕ) (i : ℕ) → faulty_row Edition1 fault 5 t i ≡ fault false (text_of (le32 t (32 * i)) (le32 t (32 * i + 4)))
unfolding faulty_row faulty_text text_at row text_base text_count null_count
tile_fault fault t i =
    let z : 32 * i + 0 + 8 * 0 ≡ 32 * i = omega arith in
    any-one (faulty_text fault 0 0 t (32 * i + 0)) ∙ ap (λ (k : ℕ). fault false (text_of (le32 t k) (le32 t (k + 4)))) z

module _ (names : List ℕ) (cs : List (List ℕ)) (n i : ℕ) (m : length names ≤ 1048576) (r : Long n cs) (l : i < n) where
  row_fault_lem : (fault : Bool → Text → Bool) → faulty_row Edition1 fault 5 (spelled_rows cs n) i ≡ fault false (text_of (le32 (nth cs 0) (8 * i + 4)) (le32 (nth cs 0) (8 * i)))
  row_fault_lem fault = tile_fault fault (spelled_rows cs n) i ∙ ap (λ (k : ℕ). fault false (text_of k (le32 (spelled_rows cs n) (32 * i + 4)))) (spelled-start cs n r i l) ∙ ap (λ (k : ℕ). fault false (text_of (le32 (nth cs 0) (8 * i + 4)) k)) (spelled_len cs n r i l)

  -- where the entry has a word for its start and one for its length
  module _ (p : le32 (nth cs 0) (8 * i + 4) < 2 ^ 32) (q : le32 (nth cs 0) (8 * i) < 2 ^ 32) where
    pub outside-by : faulty_entry (outside (length names)) (nth cs 0) i ≡ faulty_row Edition1 (outside (length names)) 5 (spelled_rows cs n) i
    outside-by = entry-outside names (nth cs 0) i m p q ∙ sym (row_fault_lem (outside (length names)))

    pub ill-by : faulty_entry (ill names) (nth cs 0) i ≡ faulty_row Edition1 (ill names) 5 (spelled_rows cs n) i
    ill-by = entry-ill names (nth cs 0) i m p q ∙ sym (row_fault_lem (ill names))

  -- "7 and 13 for a column entry that spells no allowed text": the reader finds the same in these rows
  pub outside-same : ((k : ℕ) → get_or (nth cs 0) k 0 < 256) → faulty_entry (outside (length names)) (nth cs 0) i ≡ faulty_row Edition1 (outside (length names)) 5 (spelled_rows cs n) i
  outside-same p = outside-by (le32-small (nth cs 0) (8 * i + 4) p) (le32-small (nth cs 0) (8 * i) p)

  pub ill-same : ((k : ℕ) → get_or (nth cs 0) k 0 < 256) → faulty_entry (ill names) (nth cs 0) i ≡ faulty_row Edition1 (ill names) 5 (spelled_rows cs n) i
  ill-same p = ill-by (le32-small (nth cs 0) (8 * i + 4) p) (le32-small (nth cs 0) (8 * i) p)
