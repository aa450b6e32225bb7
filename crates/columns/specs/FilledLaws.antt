-- "Where the columns hold what the fill writes, both are proved equal to those from rows": such columns spell the tile rows themselves.
use Prim.Native.Nat.{ℕ, zero, suc, ◌+◌, ◌*◌, ◌/◌, ◌^◌, ◌<◌, ◌≤◌}
use Rattle.std.specs.Prelude.{◌≡◌, Bool, true, length, get_or, Ok}
use Rattle.std.proofs.Math.Path.{refl, sym, ap}
use Rattle.std.proofs.Common.{◌∙◌, mul-zero, mul-suc, mul_comm, le-leb, length-append, take-append-drop, take-add, drop-drop}
use mathlib.Core.List.{List, [], ◌∷◌, ◌++◌, append_assoc}
use Rattle.std.proofs.Math.Bool.{false}
use native.Mathlib.Omega.{arith}
use Rattle.std.proofs.Math.ListN.{take, drop}
use Rattle.std.proofs.Math.Seq.{take-length}
use Rattle.octets.specs.Octets.{le32, le64, part, word, filled}
use Rattle.octets.specs.OctetLaws.{word_back}
use Rattle.octets.specs.BufferLaws.{length-filled, filled-front, part-between}
use Rattle.octets.specs.Gather.{gather}
use Rattle.octets.specs.GatherLaws.{gather-around, gather-agree}
use Rattle.octets.specs.Search.{any}
use Rattle.octets.proofs.SearchLaws.{any_none}
use Rattle.octets.specs.Slices.{nth}
use Rattle.octets.specs.Texts.{outside}
use Rattle.listing.specs.Listing.{row, most, count, offset, table, tables_of, rows}
use Rattle.listing.proofs.ListingLaws.{no_bad_row, no_ill_row}
use Rattle.listing.specs.ListingLaws.{count_most, table-length, table-rows}
use Rattle.listing.specs.Refusals.{Checked, ill, faulty_row, outcome, is_accepted}
use Rattle.listing.specs.RefusalLaws.{accepted-is}
use Rattle.listing.specs.declared.Format.TheVariants.{Edition1}
use Rattle.pack.specs.Columns.{entries}
use Rattle.pack.specs.Tables.{tile_at, tile_row, pack_in, pack_of}
use Rattle.pack.specs.declared.Form.TheVariants as form
use Rattle.columns.specs.Refusals.{is_short, faulty_entry, entry_reasons, column_reasons, column_outcome, fill_answer}
use Rattle.columns.specs.ColumnRefusalLaws.{is_clean, refused-same, column-rest, fill_long}
use Rattle.columns.specs.FillLaws.{entry-words, word_low, entries-length, tile-inside, number_at, tile-there}
use Rattle.octets.specs.RunLaws.{part-there, part-octets, le32-small, le32-part}
use Rattle.columns.specs.SpelledLaws.{Long, long-by, pack_by, outside-by, ill-by}
use Rattle.columns.specs.Tiles.{number_in, entry, entries_of, column, given, FillOf, read, column_pack, spelled_row, spelled_rows, respelled}

-- the columns hold what the fill writes
pub record Holds (s : List ℕ) (cs : List (List ℕ)) : Type 0 where
  pub long : is_short (rows 5 (table s 5)) cs ≡ false
  pub holds : (k : ℕ) → k < 4 → read s cs k ≡ column (table s 5) k

-- ---- the octets of an entry, in a column c that holds those of n rows
module _ (t c : List ℕ) (k n i : ℕ) (h : 8 * n ≤ length c) (e : part c 0 (8 * n) ≡ entries_of t k n) (l : i < n) where
  abbrev v : ℕ
  v = number_in k (tile_row t i)

  around : (rest : List ℕ) × (c ≡ entries_of t k i ++ (entry v ++ rest))
  unfolding part entries_of
  around =
      let g = gather-around i n (λ j. entry (number_in k (tile_row t j))) l in
      let d : List ℕ = drop (8 * n) c in
      let f : take (8 * n) c ≡ entries_of t k n = simp (le-leb (0 + 8 * n) (length c) (omega arith)) at e in
      (g.0 ++ d, sym (take-append-drop (8 * n) c) ∙ ap (λ (xs : List ℕ). xs ++ d) (f ∙ g.1) ∙ append_assoc (entries_of t k i) (entry v ++ g.0) d ∙ ap (λ (xs : List ℕ). entries_of t k i ++ xs) (append_assoc (entry v) g.0 d))

  before : length (entries_of t k i) ≡ 8 * i
  before = entries-length t k i ∙ mul_comm i 8

  whole_part : part c (8 * i) 8 ≡ entry v
  whole_part =
      ap (λ (xs : List ℕ). part xs (8 * i) 8) around.1 ∙ ap (λ (m : ℕ). part (entries_of t k i ++ (entry v ++ around.0)) m 8) (sym before) ∙ part-between (entries_of t k i) (entry v) around.0

  low_part : part c (8 * i) 4 ≡ word v
  low_part =
      ap (λ (xs : List ℕ). part xs (8 * i) 4) around.1 ∙ ap (λ (m : ℕ). part (entries_of t k i ++ (entry v ++ around.0)) m 4) (sym before)
      ∙ ap (λ (xs : List ℕ). part (entries_of t k i ++ xs) (length (entries_of t k i)) 4) (append_assoc (word v) (word (v / 4294967296)) around.0)
      ∙ part-between (entries_of t k i) (word v) (word (v / 4294967296) ++ around.0)

  high_part : part c (8 * i + 4) 4 ≡ word (v / 4294967296)
  high_part =
      let b : length (entries_of t k i ++ word v) ≡ 8 * i + 4 = length-append (entries_of t k i) (word v) ∙ ap (λ (m : ℕ). m + 4) before in
      let q : entries_of t k i ++ (entry v ++ around.0) ≡ (entries_of t k i ++ word v) ++ (word (v / 4294967296) ++ around.0)
      = ap (λ (xs : List ℕ). entries_of t k i ++ xs) (append_assoc (word v) (word (v / 4294967296)) around.0) ∙ sym (append_assoc (entries_of t k i) (word v) (word (v / 4294967296) ++ around.0)) in
      ap (λ (xs : List ℕ). part xs (8 * i + 4) 4) (around.1 ∙ q) ∙ ap (λ (m : ℕ). part ((entries_of t k i ++ word v) ++ (word (v / 4294967296) ++ around.0)) m 4) (sym b)
      ∙ part-between (entries_of t k i ++ word v) (word (v / 4294967296)) around.0

-- ---- octets again: an entry that was read from a row is the octets that it was read from
module _ (t : List ℕ) (p : (k : ℕ) → get_or t k 0 < 256) where
  long-back : (at : ℕ) → at + 8 ≤ length t → entry (le64 t at) ≡ take 8 (drop at t)
  unfolding le64
  long-back at h =
      entry-words (le32 t at) (le32 t (at + 4)) (le32-small t at p)
      ∙ ap (λ (xs : List ℕ). xs ++ word (le32 t (at + 4))) (word_back t at p (omega arith)) ∙ ap (λ (xs : List ℕ). take 4 (drop at t) ++ xs) (word_back t (at + 4) p (omega arith) ∙ ap (take 4) (sym (drop-drop 4 at t)))
      ∙ sym (take-add 4 4 (drop at t))

-- pieces of the same length, one after the other
pieces_back : (w n : ℕ) (t : List ℕ) → gather n (λ i. take w (drop (w * i) t)) ≡ take (w * n) t
pieces_back w zero t = ap (λ (m : ℕ). take m t) (sym (mul-zero w))
pieces_back w (suc n) t = rw (mul-suc w n, take-add (w * n) w t, pieces_back w n t)

-- the pieces of a row: a name's two words and three numbers
row_pieces : (at : ℕ) (t : List ℕ) → take 4 (drop at t) ++ (take 4 (drop (at + 4) t) ++ gather 3 (λ k. take 8 (drop (at + 8 * suc k) t))) ≡ take 32 (drop at t)
row_pieces at t =
    ap (λ (xs : List ℕ). take 4 (drop at t) ++ (take 4 (drop (at + 4) t) ++ xs)) (gather-agree 3 (λ k. take 8 (drop (at + 8 * suc k) t)) (λ k. take 8 (drop (8 * k) (drop (at + 8) t))) there ∙ pieces_back 8 3 (drop (at + 8) t))
    ∙ sym (take-add 4 28 (drop at t) ∙ ap (λ (xs : List ℕ). take 4 (drop at t) ++ xs) (ap (take 28) (drop-drop 4 at t) ∙ take-add 4 24 (drop (at + 4) t) ∙ ap (λ (xs : List ℕ). take 4 (drop (at + 4) t) ++ take 24 xs) (drop-drop 4 (at + 4) t ∙ ap (λ (m : ℕ). drop m t) after)))
  where
    after : at + 4 + 4 ≡ at + 8
    after = omega arith

    there : (k : ℕ) → k < 3 → take 8 (drop (at + 8 * suc k) t) ≡ take 8 (drop (8 * k) (drop (at + 8) t))
    there k l = let z : at + 8 * suc k ≡ at + 8 + 8 * k = omega arith in ap (λ (m : ℕ). take 8 (drop m t)) z ∙ ap (take 8) (sym (drop-drop (8 * k) (at + 8) t))

-- ---- columns that hold the entries of n rows spell these rows
module _ (t : List ℕ) (p : (k : ℕ) → get_or t k 0 < 256) (cs : List (List ℕ)) (n : ℕ) (w : n ≡ rows 5 t) (r : Long n cs) (e : (k : ℕ) → k < 4 → part (nth cs k) 0 (8 * n) ≡ entries_of t k n) where
  module _ (i : ℕ) (l : i < n) where
    inside : 32 * i + 32 ≤ length t
    inside = tile-inside t n i w l

    first-number : number_in 0 (tile_row t i) ≡ le32 t (32 * i + 4) + 4294967296 * le32 t (32 * i)
    unfolding tile_at
    first-number = ap (number_in 0) (tile-there t n i w l) ∙ omega arith

    first-low : part (nth cs 0) (8 * i) 4 ≡ take 4 (drop (32 * i + 4) t)
    first-low =
        low_part t (nth cs 0) 0 n i (r 0 (omega arith)) (e 0 (omega arith)) l ∙ ap word first-number ∙ word_low (le32 t (32 * i + 4)) (le32 t (32 * i)) ∙ word_back t (32 * i + 4) p (omega (arith, inside))

    first-high : part (nth cs 0) (8 * i + 4) 4 ≡ take 4 (drop (32 * i) t)
    first-high =
        let q : number_in 0 (tile_row t i) / 4294967296 ≡ le32 t (32 * i) = omega (arith, first-number, le32-small t (32 * i + 4) p) in
        high_part t (nth cs 0) 0 n i (r 0 (omega arith)) (e 0 (omega arith)) l ∙ ap word q ∙ word_back t (32 * i) p (omega (arith, inside))

    number-whole : (k : ℕ) → k < 3 → part (nth cs (suc k)) (8 * i) 8 ≡ take 8 (drop (32 * i + 8 * suc k) t)
    number-whole k m =
        whole_part t (nth cs (suc k)) (suc k) n i (r (suc k) (omega arith)) (e (suc k) (omega arith)) l ∙ ap (λ (x : ℕ). entry x) (ap (number_in (suc k)) (tile-there t n i w l) ∙ number_at t (32 * i) k m)
        ∙ long-back t p (32 * i + 8 * suc k) (omega (arith, inside))

    row_back : spelled_row cs i ≡ take 32 (drop (32 * i) t)
    unfolding spelled_row
    row_back = rw (first-high, first-low, gather-agree 3 (λ k. part (nth cs (suc k)) (8 * i) 8) (λ k. take 8 (drop (32 * i + 8 * suc k) t)) number-whole) (row_pieces (32 * i) t)

    -- and its two words are words
    word_small : (at «from» : ℕ) → at + 4 ≤ length (nth cs 0) → «from» + 4 ≤ length t → part (nth cs 0) at 4 ≡ take 4 (drop «from» t) → le32 (nth cs 0) at < 2 ^ 32
    word_small at «from» g f q =
        let z : at + 0 ≡ at = omega arith in
        let a : le32 (part (nth cs 0) at 4) 0 ≡ le32 (nth cs 0) at = le32-part (nth cs 0) at 4 0 g (omega arith) ∙ ap (le32 (nth cs 0)) z in
        let b : le32 (part (nth cs 0) at 4) 0 ≡ le32 (part t «from» 4) 0 = ap (λ (xs : List ℕ). le32 xs 0) (q ∙ sym (part-there t «from» 4 f)) in
        omega (arith, a, b, le32-small (part t «from» 4) 0 (part-octets t «from» 4 p))

    pub first_small : le32 (nth cs 0) (8 * i) < 2 ^ 32
    first_small = word_small (8 * i) (32 * i + 4) (omega (arith, r 0 (omega arith))) (omega (arith, inside)) first-low

    pub second-small : le32 (nth cs 0) (8 * i + 4) < 2 ^ 32
    second-small = word_small (8 * i + 4) (32 * i) (omega (arith, r 0 (omega arith))) (omega (arith, inside)) first-high

  pub rows-spelled : length t ≡ 32 * n → spelled_rows cs n ≡ t
  unfolding spelled_rows
  rows-spelled h = gather-agree n (spelled_row cs) (λ i. take 32 (drop (32 * i) t)) row_back ∙ pieces_back 32 n t ∙ ap (λ (m : ℕ). take m t) (sym h) ∙ take-length t

-- ---- of a listing
module _ (s : List ℕ) (p : (k : ℕ) → get_or s k 0 < 256) (cs : List (List ℕ)) (h : Holds s cs) where
  abbrev n : ℕ
  n = rows 5 (table s 5)

  octets : (k : ℕ) → get_or (table s 5) k 0 < 256
  unfolding table
  octets = part-octets s (offset s 5) (row 5 * count s 5) p

  entries-held : (k : ℕ) → k < 4 → part (nth cs k) 0 (8 * n) ≡ entries_of (table s 5) k n
  unfolding read column
  entries-held k l = h.holds k l

  long : Long n cs
  long = long-by n cs h.long

  module _ (a : is_accepted (outcome s) ≡ true) where
    table-whole : length (table s 5) ≡ 32 * n
    unfolding row
    table-whole = omega (arith, table-length s a 5 (omega arith), table-rows s a 5 (omega arith) (omega arith))

    spelled : spelled_rows cs n ≡ table s 5
    spelled = rows-spelled (table s 5) octets cs n refl long entries-held table-whole

    -- the pack of the columns is that of the rows
    pub held_pack : column_pack s cs ≡ pack_of s
    unfolding pack_of respelled tables_of
    held_pack =
        pack_by s cs long (λ i l. first_small (table s 5) octets cs n refl long entries-held i l)
        ∙ ap (λ (xs : List ℕ). pack_in form.Rows (table s 1 ∷ table s 2 ∷ table s 3 ∷ table s 4 ∷ xs ∷ table s 6 ∷ table s 7 ∷ [])) spelled

    names-most : length (table s 7) ≤ 1048576
    unfolding row most
    names-most = omega (arith, table-length s a 7 (omega arith), count_most s a 7 (omega arith) (omega arith))

    -- no entry is at fault, since no row of an accepted listing is
    entry-inside : (i : ℕ) → i < n → faulty_entry (outside (length (table s 7))) (nth cs 0) i ≡ false
    entry-inside i l =
        outside-by (table s 7) cs n i names-most long l (second-small (table s 5) octets cs n refl long entries-held i l) (first_small (table s 5) octets cs n refl long entries-held i l)
        ∙ ap (λ (t : List ℕ). faulty_row Edition1 (outside (length (table s 7))) 5 t i) spelled ∙ no_bad_row s a 5 i (omega arith) (omega arith) l

    entry-well : (i : ℕ) → i < n → faulty_entry (ill (table s 7)) (nth cs 0) i ≡ false
    entry-well i l =
        ill-by (table s 7) cs n i names-most long l (second-small (table s 5) octets cs n refl long entries-held i l) (first_small (table s 5) octets cs n refl long entries-held i l)
        ∙ ap (λ (t : List ℕ). faulty_row Edition1 (ill (table s 7)) 5 t i) spelled ∙ no_ill_row s a 5 i (omega arith) (omega arith) l

    held-accepted : column_outcome s cs ≡ outcome s
    unfolding column_reasons entry_reasons
    held-accepted =
        let u : any (faulty_entry (outside (length (table s 7))) (nth cs 0)) n ≡ false = any_none (faulty_entry (outside (length (table s 7))) (nth cs 0)) n entry-inside in
        let v : any (faulty_entry (ill (table s 7)) (nth cs 0)) n ≡ false = any_none (faulty_entry (ill (table s 7)) (nth cs 0)) n entry-well in
        column-rest s cs a ∙ simp (h.long, u, v) (sym (accepted-is s a))

  -- the answer to such columns is that to the listing
  pub held-outcome : column_outcome s cs ≡ outcome s
  held-outcome = by (is_accepted (outcome s)) refl
    where
      by : (b : Bool) → is_accepted (outcome s) ≡ b → column_outcome s cs ≡ outcome s
      by true a = held-accepted a
      by false a = refused-same s cs a

-- ---- "one call fills them from an accepted listing": columns after a fill that is not refused hold what it writes
front_of : (n : ℕ) (xs b c : List ℕ) → c ≡ filled xs b → length xs ≡ 8 * n → 8 * n ≤ length b → part c 0 (8 * n) ≡ xs
front_of n xs b c e f l =
    part-there c 0 (8 * n) (omega (arith, ap length e, length-filled xs b (omega arith))) ∙ ap (λ (ys : List ℕ). take (8 * n) ys) e ∙ ap (λ (m : ℕ). take m (filled xs b)) (sym f) ∙ filled-front xs b

column-length : (t : List ℕ) (k : ℕ) → length (column t k) ≡ 8 * rows 5 t
unfolding column
column-length t k = entries-length t k (rows 5 t) ∙ mul_comm (rows 5 t) 8

-- columns as long are short together
short-same : (n : ℕ) (bs cs : List (List ℕ)) → length (nth cs 0) ≡ length (nth bs 0) → length (nth cs 1) ≡ length (nth bs 1) → length (nth cs 2) ≡ length (nth bs 2) → length (nth cs 3) ≡ length (nth bs 3) → is_short n cs ≡ is_short n bs
unfolding is_short entries
short-same n bs cs e f g h = rw (e, f, g, h)

pub filled-holds : (s : List ℕ) (bs cs : List (List ℕ)) → FillOf s bs (Ok tt) cs → Holds s cs
unfolding read
filled-holds s bs cs h = record { long = kept; holds = each }
  where
    clean : fill_answer s bs ≡ (Ok tt)
    clean = sym h.answer

    long : Long (rows 5 (table s 5)) bs
    long = long-by (rows 5 (table s 5)) bs (fill_long s bs (ap is_clean clean))

    put : (k : ℕ) → nth cs k ≡ filled (given (fill_answer s bs) (table s 5) k) (nth bs k) → nth cs k ≡ filled (column (table s 5) k) (nth bs k)
    put k e = e ∙ ap (λ (x : Checked). filled (given x (table s 5) k) (nth bs k)) clean

    is : (k : ℕ) → k < 4 → nth cs k ≡ filled (column (table s 5) k) (nth bs k)
    is zero l = put 0 h.firsts
    is (suc zero) l = put 1 h.zooms
    is (suc (suc zero)) l = put 2 h.columns
    is (suc (suc (suc zero))) l = put 3 h.rows
    is (suc (suc (suc (suc k)))) l = absurd (omega (arith, l))

    same : (k : ℕ) → k < 4 → length (nth cs k) ≡ length (nth bs k)
    same k l = ap length (is k l) ∙ length-filled (column (table s 5) k) (nth bs k) (omega (arith, column-length (table s 5) k, long k l))

    kept : is_short (rows 5 (table s 5)) cs ≡ false
    kept = short-same (rows 5 (table s 5)) bs cs (same 0 (omega arith)) (same 1 (omega arith)) (same 2 (omega arith)) (same 3 (omega arith)) ∙ fill_long s bs (ap is_clean clean)

    each : (k : ℕ) → k < 4 → part (nth cs k) 0 (8 * rows 5 (table s 5)) ≡ column (table s 5) k
    each k l = front_of (rows 5 (table s 5)) (column (table s 5) k) (nth bs k) (nth cs k) (is k l) (column-length (table s 5) k) (long k l)
