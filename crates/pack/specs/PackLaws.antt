-- The laws of packs. Past its last row a table has one blank, whatever the names; so packs with the same counts and the same rows are equal.
use Prim.Native.Nat.{ℕ, zero, suc, ◌/◌, ◌<◌, ◌≤◌}
use Rattle.std.specs.Prelude.{◌≡◌, List, [], Bool, true, false, cond, ltb, leb, length, take, drop}
use Rattle.std.proofs.Math.Path.{refl, fun_ext}
use Rattle.std.proofs.Common.{sym, ◌∙◌, subst, lt-ltb, le-ltb, ltb-true, ltb-false}
use native.Mathlib.Omega.{arith}
use Rattle.octets.specs.Octets.{part}
use Rattle.octets.specs.Slices.{nth}
use Rattle.listing.specs.Listing.{row, most, count, table, tables_of, rows}
use Rattle.listing.specs.Refusals.{outcome, is_accepted}
use Rattle.listing.specs.ListingLaws.{count_most, table-rows}
use Rattle.pack.specs.Rows.{Rows, Pack, rows_in}
use Rattle.pack.specs.Tables.{no_reference, no_contents, no_set, no_matrix, no_tile, no_extension, reference_row, contents_row, set_row, matrix_row, tile_row, extension_row, reference_of, content_of, set_of, matrix_of, tile_of, extension_of, references_of, contents_of, sets_of, matrices_of, entry_row, tile_count, tile_in, tiles_in, extensions_of, pack_of}
use Rattle.pack.specs.Columns.{entry_count}
use Rattle.pack.specs.declared.Form.{Form}
use Rattle.pack.specs.declared.Form.TheVariants as form

-- ---- past the last row
-- past its last row a table has x alone
abbrev pub Past : {A : Type 0} → Rows A → A → Type 0
Past a x = (i : ℕ) → a.count ≤ i → a.row i ≡ x

part_by : (b : Bool) (xs : List ℕ) → cond b (take 0 xs) [] ≡ []
part_by true xs = refl
part_by false xs = refl

part_none : (s : List ℕ) → part s 0 0 ≡ []
unfolding part
part_none s = part_by (leb 0 (length s)) (drop 0 s)

module _ (t names : List ℕ) where
  pub references-past : Past (references_of t names) (reference_of [] no_reference)
  unfolding reference_row reference_of
  references-past i l = simp (le-ltb i (length t / 32) l, part_none names, part_none [])

  pub contents-past : Past (contents_of t names) (content_of [] no_contents)
  unfolding contents_row content_of
  contents-past i l = simp (le-ltb i (length t / 40) l, part_none names, part_none [])

  pub sets-past : Past (sets_of t names) (set_of [] no_set)
  unfolding set_row set_of
  sets-past i l = simp (le-ltb i (length t / 48) l, part_none names, part_none [])

  pub matrices-past : Past (matrices_of t names) (matrix_of [] no_matrix)
  unfolding matrix_row matrix_of
  matrices-past i l = simp (le-ltb i (length t / 64) l, part_none names, part_none [])

  pub extensions-past : Past (extensions_of t names) (extension_of [] no_extension)
  unfolding extension_row extension_of
  extensions-past i l = simp (le-ltb i (length t / 32) l)

-- of tiles whatever their form
pub tiles-past : (f : Form) (ts : List (List ℕ)) (names : List ℕ) → Past (tiles_in f ts names) (tile_of [] no_tile)
unfolding tile_count tile_in tile_row entry_row tile_of
tiles-past form.Rows ts names i l = simp (le-ltb i (length (nth ts 4) / 32) l, part_none names, part_none [])
tiles-past form.Columns ts names i l = simp (le-ltb i (entry_count (nth ts 4) (nth ts 7) (nth ts 8) (nth ts 9)) l, part_none names, part_none [])

-- a row that is there, and one past the last: one pair of laws for all tables
module _ {A : Type 0} (i n : ℕ) (r x blank : A) where
  pub row-there : i < n → r ≡ x → r ≡ cond (ltb i n) x blank
  row-there l e = simp (lt-ltb i n l) e

  pub row-past : n ≤ i → r ≡ blank → r ≡ cond (ltb i n) x blank
  row-past l e = simp (le-ltb i n l) e

-- ---- the same rows
-- two tables have as many rows, and the same ones
pub record SameRows {A : Type 0} (a b : Rows A) : Type 0 where
  pub counts : a.count ≡ b.count
  pub rows : (i : ℕ) → i < a.count → a.row i ≡ b.row i

pub record SamePack (p q : Pack) : Type 0 where
  pub references : SameRows p.references q.references
  pub contents : SameRows p.contents q.contents
  pub sets : SameRows p.sets q.sets
  pub matrices : SameRows p.matrices q.matrices
  pub tiles : SameRows p.tiles q.tiles
  pub extensions : SameRows p.extensions q.extensions

-- such tables are equal where the same stands past the last row
module _ {A : Type 0} (a b : Rows A) (x : A) (p : Past a x) (q : Past b x) (h : SameRows a b) where
  by : (i : ℕ) (c : Bool) → ltb i a.count ≡ c → a.row i ≡ b.row i
  by i true f = h.rows i (ltb-true _ _ f)
  by i false f =
      let l : a.count ≤ i = ltb-false _ _ f in
      p i l ∙ sym (q i (subst (λ (n : ℕ). n ≤ i) h.counts l))

  pub rows_equal : a ≡ b
  rows_equal = λ k. record { count = h.counts k; row = fun_ext (λ i. by i (ltb i a.count) refl) k }

-- the packs of two listings, whatever the octets that spell them
pub packs_equal : (s t : List ℕ) → SamePack (pack_of s) (pack_of t) → pack_of s ≡ pack_of t
unfolding pack_of
packs_equal s t h = λ k. record {
  references = rows_equal _ _ _ (references-past _ _) (references-past _ _) h.references k;
  contents = rows_equal _ _ _ (contents-past _ _) (contents-past _ _) h.contents k;
  sets = rows_equal _ _ _ (sets-past _ _) (sets-past _ _) h.sets k;
  matrices = rows_equal _ _ _ (matrices-past _ _) (matrices-past _ _) h.matrices k;
  tiles = rows_equal _ _ _ (tiles-past form.Rows _ _) (tiles-past form.Rows _ _) h.tiles k;
  extensions = rows_equal _ _ _ (extensions-past _ _) (extensions-past _ _) h.extensions k;
}

-- ---- the counts
module _ (s : List ℕ) where
  -- as many as its octets hold
  pub count-rows : (k : ℕ) → 1 ≤ k → k ≤ 6 → rows_in (pack_of s) k ≡ rows k (table s k)
  unfolding pack_of tables_of nth rows row rows_in tile_count
  count-rows zero l h = omega arith
  count-rows (suc zero) l h = refl
  count-rows (suc (suc zero)) l h = refl
  count-rows (suc (suc (suc zero))) l h = refl
  count-rows (suc (suc (suc (suc zero)))) l h = refl
  count-rows (suc (suc (suc (suc (suc zero))))) l h = refl
  count-rows (suc (suc (suc (suc (suc (suc zero)))))) l h = refl
  count-rows (suc (suc (suc (suc (suc (suc (suc k))))))) l h = omega arith

  -- of an accepted listing, as many as the header says
  pub count-header : is_accepted (outcome s) ≡ true → (k : ℕ) → 1 ≤ k → k ≤ 6 → rows_in (pack_of s) k ≡ count s k
  count-header a k l h = count-rows k l h ∙ table-rows s a k l (omega arith)

  -- and at most its most
  pub count-at_most : is_accepted (outcome s) ≡ true → (k : ℕ) → 1 ≤ k → k ≤ 6 → rows_in (pack_of s) k ≤ most k
  count-at_most a k l h = subst (λ (n : ℕ). n ≤ most k) (sym (count-header a k l h)) (count_most s a k l (omega arith))

  -- so none has more than 262,144 rows, and no row has the number that means none, 4294967295
  pub rows-most : is_accepted (outcome s) ≡ true → (k : ℕ) → rows_in (pack_of s) k ≤ 262144
  unfolding rows_in most
  rows-most a zero = omega arith
  rows-most a (suc zero) = omega (arith, count-at_most a 1 (omega arith) (omega arith))
  rows-most a (suc (suc zero)) = omega (arith, count-at_most a 2 (omega arith) (omega arith))
  rows-most a (suc (suc (suc zero))) = omega (arith, count-at_most a 3 (omega arith) (omega arith))
  rows-most a (suc (suc (suc (suc zero)))) = omega (arith, count-at_most a 4 (omega arith) (omega arith))
  rows-most a (suc (suc (suc (suc (suc zero))))) = omega (arith, count-at_most a 5 (omega arith) (omega arith))
  rows-most a (suc (suc (suc (suc (suc (suc zero)))))) = omega (arith, count-at_most a 6 (omega arith) (omega arith))
  rows-most a (suc (suc (suc (suc (suc (suc (suc k))))))) = omega arith

  pub rows-numbered : is_accepted (outcome s) ≡ true → (k : ℕ) → rows_in (pack_of s) k ≤ 4294967295
  rows-numbered a k = omega (arith, rows-most a k)
