-- A row by a count that was asked for, entries of columns, and a number that is no table's.
use Prim.Native.Nat.{ℕ, zero, suc, ◌+◌, ◌*◌, ◌<◌, ◌≤◌}
use mathlib.Core.Path.{◌≡◌, refl, sym, ap, ◌∙◌, subst}
use mathlib.Core.List.{List}
use mathlib.Core.Bool.{cond}
use native.Mathlib.Omega.{arith}
use borrow.Author.Rules.{rules}
use lib.Dec.{ltb}
use lib.ListN.{length}
use Rattle.octets.specs.Slices.{nth}
use Rattle.listing.specs.Listing.{tables_of}
use Rattle.pack.specs.Rows.{Pack, rows_in}
use Rattle.pack.specs.PackLaws.{row-there, row-past}
use Rattle.pack.specs.Tables.{tile_row, tile_count, tile_in, with_tiles, pack_in, pack_of}
use Rattle.pack.specs.Columns.{entries, entry_count}
use Rattle.pack.specs.declared.Form.{Form}
use Rattle.pack.specs.declared.Form.TheVariants as form
use Rattle.pack.specs.declared.TileRow.{TileRow}

module _ {A : Type 0} (i n : ℕ) (r x blank : A) where
  -- by a count that was asked for
  pub counted-there : (m : ℕ) → m ≡ n → i < m → r ≡ x → r ≡ cond (ltb i n) x blank
  counted-there m q l e = row-there i n r x blank (subst (λ (k : ℕ). i < k) q l) e

  pub counted-past : (m : ℕ) → m ≡ n → m ≤ i → r ≡ blank → r ≡ cond (ltb i n) x blank
  counted-past m q l e = row-past i n r x blank (subst (λ (k : ℕ). k ≤ i) q l) e

pub ruleset rows = (row-there, row-past, rules)

pub ruleset counted = (counted-there, counted-past, rules)

-- each of four columns has room for an entry that all have
pub room-entry : (a b c d : List ℕ) (i n : ℕ) → n ≡ entry_count a b c d → i < n → (8 * i + 8 ≤ length a) × (8 * i + 8 ≤ length b) × (8 * i + 8 ≤ length c) × (8 * i + 8 ≤ length d)
unfolding entry_count entries
room-entry a b c d i n e l = (omega (arith, e, l), omega (arith, e, l), omega (arith, e, l), omega (arith, e, l))

-- a tile, by the form in which tiles stand
module _ (f : Form) (ts : List (List ℕ)) (i : ℕ) (r : TileRow) where
  pub tile-row : (t : List ℕ) → f ≡ form.Rows → t ≡ nth ts 4 → r ≡ tile_row t i → r ≡ tile_in f ts i
  unfolding tile_in
  tile-row t q e h = h ∙ ap (λ (u : List ℕ). tile_row u i) e ∙ ap (λ (g : Form). tile_in g ts i) (sym q)

  pub tile-entry : f ≡ form.Columns → r ≡ tile_in form.Columns ts i → r ≡ tile_in f ts i
  tile-entry q h = h ∙ ap (λ (g : Form). tile_in g ts i) (sym q)

-- the tables of a listing with its own rows in all places of tiles
pub cut_rows : (s t : List ℕ) (ts us : List (List ℕ)) → ts ≡ tables_of s → t ≡ nth ts 4 → us ≡ with_tiles ts t t t t → pack_in form.Rows us ≡ pack_of s
unfolding pack_of with_tiles tile_count tile_in nth
cut_rows s t ts us e f g = simp (g, f, e)

-- a number that is no table's
pub rows_other : (p : Pack) (t : ℕ) → (t ≡ 1 → ⊥) → (t ≡ 2 → ⊥) → (t ≡ 3 → ⊥) → (t ≡ 4 → ⊥) → (t ≡ 5 → ⊥) → (t ≡ 6 → ⊥) → 0 ≡ rows_in p t
unfolding rows_in
rows_other p zero a b c d e f = refl
rows_other p (suc zero) a b c d e f = absurd (a refl)
rows_other p (suc (suc zero)) a b c d e f = absurd (b refl)
rows_other p (suc (suc (suc zero))) a b c d e f = absurd (c refl)
rows_other p (suc (suc (suc (suc zero)))) a b c d e f = absurd (d refl)
rows_other p (suc (suc (suc (suc (suc zero))))) a b c d e f = absurd (e refl)
rows_other p (suc (suc (suc (suc (suc (suc zero)))))) a b c d e f = absurd (f refl)
rows_other p (suc (suc (suc (suc (suc (suc (suc t))))))) a b c d e f = refl
