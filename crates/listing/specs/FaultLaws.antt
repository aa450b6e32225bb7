-- Reasons 7 and 13 in one search: each text is looked at once for both, and where one is at fault, a search for 7 alone says which of them it is.
use Rattle.std.specs.Prelude.{ℕ, ◌+◌, ◌*◌, ◌<◌, ◌≤◌, ◌≡◌, refl, List, Bool, true, not, ◌&&◌, ◌||◌, ltb, eqb, length}
use Rattle.std.proofs.Common.{sym, ◌∙◌, subst, le_refl, arith, lt-ltb, le-ltb, ne_eqb}
use Rattle.std.proofs.Math.Path.{ap}
use Rattle.std.proofs.Math.Bool.{false}
use Rattle.std.proofs.lemmas.Bool.{false≢true, not-false}
use Rattle.octets.specs.Search.{first, any}
use Rattle.octets.proofs.SearchLaws.{first-lowest, none-at, any_none, any-or}
use Rattle.octets.specs.SearchLaws.{Seeking, cursor_more, first-agree, any-agree, finds, misses}
use Rattle.octets.specs.Octets.{le32}
use Rattle.octets.specs.Texts.{text_of, text_at, name_at, outside}
use Rattle.octets.specs.declared.Name.{Name}
use Rattle.octets.specs.Texts.{Text}
use Rattle.utf8.specs.MarkLaws.{Clear}
use Rattle.listing.specs.Formats.{table_count, table_number, row_in, base_in, texts_in, null_from, null_end}
use Rattle.listing.specs.Listing.{rows_as}
use Rattle.listing.specs.Refusals.{ill, nullable, faulty_text, faulty_row, lowest_faulty_row, faulty_table}
use Rattle.listing.specs.declared.Format.{Format}
use Rattle.listing.specs.declared.Cursor.{Cursor}
use Rattle.listing.specs.declared.TextFault.{TextFault}
use Rattle.listing.specs.declared.TextFault.TheVariants.{Outside, Either}
use Rattle.listing.specs.declared.TextOrder.{TextOrder}
use Rattle.listing.specs.declared.TextOrder.TheVariants.{StartFirst, LengthFirst}

-- one of two faults
abbrev pub either : (Bool → Text → Bool) → (Bool → Text → Bool) → Bool → Text → Bool
either f g nullable t = f nullable t || g nullable t

-- what the code asks of a text
abbrev pub asked : TextFault → List ℕ → Bool → Text → Bool
asked Outside names = outside (length names)
asked Either names = either (outside (length names)) (ill names)

-- a place: the lowest table with a text at fault, or the last, and its lowest such row
pub record Found (f : Format) (fault : Bool → Text → Bool) (ts : ℕ → List ℕ) (k i : ℕ) : Type 0 where
  pub table : k ≡ first (faulty_table f fault ts) (table_count f)
  pub some : 1 ≤ k
  pub row : k < table_count f → i ≡ lowest_faulty_row f fault ts k

none_or : (a b : Bool) → (a || b) ≡ false → (a ≡ false) × (b ≡ false)
none_or true b e = absurd (false≢true (sym e))
none_or false b e = (refl, e)

and-or : (a x y z : Bool) → x ≡ (y || z) → (a && x) ≡ ((a && y) || (a && z))
and-or true x y z e = e
and-or false x y z e = refl

-- ---- a search for one of two faults
module _ (x : Format) (f g : Bool → Text → Bool) (ts : ℕ → List ℕ) where
  row-or : (k i : ℕ) → faulty_row x (either f g) k (ts k) i ≡ (faulty_row x f k (ts k) i || faulty_row x g k (ts k) i)
  unfolding faulty_row faulty_text
  row-or k i = any-or (faulty_text f (null_from x k) (null_end x k) (ts k) (row_in x k * i + base_in x k)) (faulty_text g (null_from x k) (null_end x k) (ts k) (row_in x k * i + base_in x k)) (texts_in x k)

  rows-or : (k : ℕ) → any (faulty_row x (either f g) k (ts k)) (rows_as x k (ts k)) ≡ (any (faulty_row x f k (ts k)) (rows_as x k (ts k)) || any (faulty_row x g k (ts k)) (rows_as x k (ts k)))
  rows-or k = any-agree (faulty_row x (either f g) k (ts k)) (λ i. faulty_row x f k (ts k) i || faulty_row x g k (ts k) i) (rows_as x k (ts k)) (λ i l. row-or k i)
      ∙ any-or (faulty_row x f k (ts k)) (faulty_row x g k (ts k)) (rows_as x k (ts k))

  table-or : (k : ℕ) → faulty_table x (either f g) ts k ≡ (faulty_table x f ts k || faulty_table x g ts k)
  unfolding faulty_table lowest_faulty_row any
  table-or k = and-or (ltb 0 k) (any (faulty_row x (either f g) k (ts k)) (rows_as x k (ts k))) (any (faulty_row x f k (ts k)) (rows_as x k (ts k))) (any (faulty_row x g k (ts k)) (rows_as x k (ts k))) (rows-or k)

  -- where neither is found, neither is there
  module _ (n i last : ℕ) (d : last ≡ table_count x) (h : Found x (either f g) ts n i) (l : last ≤ n) where
    none-either : (any (faulty_table x f ts) (table_count x) ≡ false) × (any (faulty_table x g ts) (table_count x) ≡ false)
    none-either =
        none_or (any (faulty_table x f ts) (table_count x)) (any (faulty_table x g ts) (table_count x))
        (sym (any-agree (faulty_table x (either f g) ts) (λ k. faulty_table x f ts k || faulty_table x g ts k) (table_count x) (λ k m. table-or k) ∙ any-or (faulty_table x f ts) (faulty_table x g ts) (table_count x))
        ∙ misses (faulty_table x (either f g) ts) (table_count x) n h.table (omega (arith, d, l)))

    pub none_first : Found x f ts n i
    none_first = record { table = h.table ∙ first-agree (faulty_table x (either f g) ts) (faulty_table x f ts) (table_count x) same; some = h.some; row = λ m. absurd (omega (arith, d, l, m)) }
      where
        same : (k : ℕ) → k < table_count x → faulty_table x (either f g) ts k ≡ faulty_table x f ts k
        same k m =
            let u : faulty_table x f ts k ≡ false = none-at (faulty_table x f ts) (table_count x) none-either.0 k m in
            let v : faulty_table x g ts k ≡ false = none-at (faulty_table x g ts) (table_count x) none-either.1 k m in
            table-or k ∙ simp (u, v)

    pub none-second : any (faulty_table x g ts) (table_count x) ≡ false
    none-second = none-either.1

  -- where the first is not there, what is found is the second
  module _ (n i k j last : ℕ) (d : last ≡ table_count x) (h : Found x (either f g) ts n i) (o : Found x f ts k j) (m : last ≤ k) where
    no_first : (j : ℕ) → j < table_count x → faulty_table x f ts j ≡ false
    no_first j l = (first-lowest (faulty_table x f ts) (table_count x)).below j (omega (arith, o.table, d, m))

    no_row : (j : ℕ) → 1 ≤ j → j < table_count x → (i : ℕ) → i < rows_as x j (ts j) → faulty_row x f j (ts j) i ≡ false
    unfolding faulty_table lowest_faulty_row any
    no_row j l b i n = none-at (faulty_row x f j (ts j)) (rows_as x j (ts j)) (simp (lt-ltb 0 j l) at (no_first j b)) i n

    second-table : n ≡ first (faulty_table x g ts) (table_count x)
    second-table = h.table ∙ first-agree (faulty_table x (either f g) ts) (faulty_table x g ts) (table_count x) (λ j l. let u : faulty_table x f ts j ≡ false = no_first j l in table-or j ∙ simp u)

    -- as a refusal names it
    pub second-named : table_number x n ≡ table_number x (first (faulty_table x g ts) (table_count x))
    second-named = ap (table_number x) second-table

    pub second-there : n < last → any (faulty_table x g ts) (table_count x) ≡ true
    second-there l = finds (faulty_table x g ts) (table_count x) n second-table (omega (arith, d, l))

    pub second-row : n < last → i ≡ lowest_faulty_row x g ts (first (faulty_table x g ts) (table_count x))
    unfolding lowest_faulty_row
    second-row l =
        h.row (omega (arith, d, l))
        ∙ first-agree (faulty_row x (either f g) n (ts n)) (faulty_row x g n (ts n)) (rows_as x n (ts n)) (λ r b. let u : faulty_row x f n (ts n) r ≡ false = no_row n h.some (omega (arith, d, l)) r b in row-or n r ∙ simp u)
        ∙ ap (λ (t : ℕ). first (faulty_row x g t (ts t)) (rows_as x t (ts t))) second-table

-- ---- rows that need no look: each has one text, and that is clear
-- a clear text has no fault, whether it may be NULL or not
clear_text : (fault : TextFault) (names : List ℕ) (start len : ℕ) (nullable : Bool) → Clear names start len → asked fault names nullable (text_of start len) ≡ false
clear_text fault names start len nullable h = by fault
  where
    there : eqb start 4294967295 ≡ false
    there = ne_eqb start 4294967295 (λ e. omega (arith, h.present))

    inside : ltb (length names) (start + len) ≡ false
    inside = le-ltb (length names) (start + len) h.within

    by : (fault : TextFault) → asked fault names nullable (text_of start len) ≡ false
    by Outside = simp (there, inside)
    by Either = simp (there, inside, h.well)

-- the name at a place, its two numbers in either order
abbrev pub name_by : TextOrder → List ℕ → ℕ → Name
name_by StartFirst t at = name_at t at
name_by LengthFirst t at = record { start = le32 t (at + 4); len = le32 t at }

abbrev pub ClearAt : TextOrder → List ℕ → List ℕ → ℕ → Type 0
ClearAt o names t at = Clear names (name_by o t at).start (name_by o t at).len

clear_row : (fault : TextFault) (names t : List ℕ) (from end at : ℕ) → ClearAt StartFirst names t at → any (faulty_text (asked fault names) from end t at) 1 ≡ false
unfolding faulty_text text_at
clear_row fault names t from end at h = any_none (faulty_text (asked fault names) from end t at) 1 (λ i l. let d : i ≡ 0 = omega arith in ap (faulty_text (asked fault names) from end t at) d ∙ only)
  where
    only : faulty_text (asked fault names) from end t at 0 ≡ false
    only = let e : at + 8 * 0 ≡ at = omega arith in simp e (clear_text fault names (name_at t at).start (name_at t at).len (nullable from end 0) h)

-- rows of some octets, with texts at a place of each: one of the texts has a fault
unfoldable pub row_fault : (Bool → Text → Bool) → ℕ → ℕ → ℕ → ℕ → ℕ → List ℕ → ℕ → Bool
row_fault fault size base texts from nulls t i = any (faulty_text fault from nulls t (size * i + base)) texts

-- a table's rows are such
pub row_fault_lem : (f : Format) (fault : Bool → Text → Bool) (k : ℕ) (t : List ℕ) (size base texts from nulls n r : ℕ) → size ≡ row_in f k → base ≡ base_in f k → texts ≡ texts_in f k → from ≡ null_from f k → nulls ≡ null_end f k → n ≡ rows_as f k t
    → r ≡ first (row_fault fault size base texts from nulls t) n → r ≡ first (faulty_row f fault k t) (rows_as f k t)
unfolding row_fault faulty_row
row_fault_lem f fault k t size base texts from nulls n r e g h o p q w =
    w ∙ ap (first (row_fault fault size base texts from nulls t)) q ∙ first-agree (row_fault fault size base texts from nulls t) (faulty_row f fault k t) (rows_as f k t) (λ i l. cc)

-- the rows before an end have room for their texts
pub record Roomy (t : List ℕ) (size base texts end : ℕ) : Type 0 where
  pub room : (i : ℕ) → i < end → size * i + base + 8 * texts ≤ length t

pub roomy-same : (t : List ℕ) (size base texts n m : ℕ) → Roomy t size base texts n → m ≡ n → Roomy t size base texts m
roomy-same t size base texts n m h e = subst (λ (n : ℕ). Roomy t size base texts n) (sym e) h

-- a cursor has passed rows whose one text is clear: whatever no such row has, a search has not met on the way
pub record Passed (o : TextOrder) (names t : List ℕ) (size base texts : ℕ) (c d : Cursor) : Type 0 where
  pub after : c.row ≤ d.row
  pub within : c.row ≤ c.end → d.row ≤ d.end
  pub end : d.end ≡ c.end
  pub on : (p : ℕ → Bool) → ((i : ℕ) → texts ≡ 1 → ClearAt o names t (size * i + base) → p i ≡ false) → Seeking p c.row c.end → Seeking p d.row d.end

module _ (o : TextOrder) (names t : List ℕ) (size base texts : ℕ) where
  pub passed_none : (c : Cursor) → Passed o names t size base texts c c
  passed_none c = record { after = le_refl c.row; within = λ w. w; end = refl; on = λ p h s. s }

  pub passed-more : (a c d : Cursor) (here : Name) (b : Bool) → Passed o names t size base texts a c → texts ≡ 1 → here ≡ name_by o t (size * c.row + base)
      → (b ≡ true → Clear names here.start here.len) → not b ≡ false → c.row < c.end → d.row ≡ c.row + 1 → d.end ≡ c.end → Passed o names t size base texts a d
  passed-more a c d here b h f w s n l u v = record {
    after = omega (arith, h.after, u);
    within = λ w. omega (arith, l, u, v);
    end = v ∙ h.end;
    on = λ p g k. cursor_more p c.row d.row c.end d.end false (h.on p g k) l (sym (g c.row f (subst (λ (x : Name). Clear names x.start x.len) w (s (not-false b n))))) refl u v;
  }

-- a search for rows at fault
pub passed_on : (names t : List ℕ) (size base texts : ℕ) (fault : TextFault) (from nulls : ℕ) (c d : Cursor) → Passed StartFirst names t size base texts c d
    → Seeking (row_fault (asked fault names) size base texts from nulls t) c.row c.end → Seeking (row_fault (asked fault names) size base texts from nulls t) d.row d.end
unfolding row_fault
passed_on names t size base texts fault from nulls c d h =
    h.on (row_fault (asked fault names) size base texts from nulls t)
    (λ i o w. ap (any (faulty_text (asked fault names) from nulls t (size * i + base))) o ∙ clear_row fault names t from nulls (size * i + base) w)
