-- A tile that answers to a key has it (sound), every tile answers to its own (own), and the code reads it (read).
use Prim.Native.Nat.{ℕ}
use mathlib.Core.Path.{◌≡◌, sym, ap, subst}
use mathlib.Core.List.{List}
use mathlib.Core.Bool.{true, ◌&&◌, and-eq-true_iff}
use lib.IntN.{ℤ}
use Rattle.octets.specs.Numbers.{eq_z}
use Rattle.octets.specs.NumberLaws.{eq_z_true}
use Rattle.octets.specs.Texts.{same}
use Rattle.octets.proofs.TextLaws.{same_equal, same_refl}
use Rattle.octets.specs.declared.Name.{Name}
use Rattle.pack.specs.Rows.{Rows, Tile}
use Rattle.pack.specs.Tables.{tile_in, tile_of, tiles_in}
use Rattle.pack.specs.declared.Form.{Form}
use Rattle.pack.specs.declared.TileRow.{TileRow}
use Rattle.rules.specs.Matrices.{tile_named}
use Rattle.rules.specs.Tiles.{at_address}
use Rattle.index.specs.TileKeys.{address_at, name_at, is_at, has_name, address_of, name_of}
use Rattle.index.proofs.KeyLaws.{eq_z_refl, by_name}

module _ (ts : Rows Tile) (k : ℕ) where
  pub address_sound : (a : List ℕ × ℤ × ℤ × ℤ) → is_at ts a k ≡ true → a ≡ address_at ts k
  unfolding at_address
  address_sound a e =
      let q = ts.row k in
      let f = (and-eq-true_iff (same a.0 q.name) (eq_z a.1 q.zoom && (eq_z a.2 q.column && eq_z a.3 q.row))).0 e in
      let g = (and-eq-true_iff (eq_z a.1 q.zoom) (eq_z a.2 q.column && eq_z a.3 q.row)).0 f.1 in
      let h = (and-eq-true_iff (eq_z a.2 q.column) (eq_z a.3 q.row)).0 g.1 in
      let x' : a.0 ≡ q.name = same_equal _ _ f.0 in
      let z' : a.1 ≡ q.zoom = eq_z_true _ _ g.0 in
      let c' : a.2 ≡ q.column = eq_z_true _ _ h.0 in
      let r' : a.3 ≡ q.row = eq_z_true _ _ h.1 in
      λ i. (x' i, z' i, c' i, r' i)

  own : is_at ts (address_at ts k) k ≡ true
  unfolding at_address
  own = let q = ts.row k in simp (sym (same_refl q.name), eq_z_refl q.zoom, eq_z_refl q.column, eq_z_refl q.row)

  pub name-sound : (names : List ℕ) (x : Name) → has_name ts (name_of names x) k ≡ true → name_of names x ≡ name_at ts k
  unfolding tile_named
  name-sound names x e = by_name (same_equal _ _ e)

  named-own : has_name ts (name_at ts k) k ≡ true
  unfolding tile_named
  named-own = sym (same_refl (ts.row k).name)

module _ (f : Form) (ts : List (List ℕ)) (names : List ℕ) (k : ℕ) (q : TileRow) (e : q ≡ tile_in f ts k) where
  pub address_read : address_of names q ≡ address_at (tiles_in f ts names) k
  unfolding tile_of
  address_read = ap (address_of names) e

  pub address_own : is_at (tiles_in f ts names) (address_of names q) k ≡ true
  address_own = subst (λ (a : List ℕ × ℤ × ℤ × ℤ). is_at (tiles_in f ts names) a k ≡ true) (sym address_read) (own (tiles_in f ts names) k)

  pub name-read : name_of names q.name ≡ name_at (tiles_in f ts names) k
  unfolding tile_of
  name-read = ap (λ (r : TileRow). name_of names r.name) e

  pub name-own : has_name (tiles_in f ts names) (name_of names q.name) k ≡ true
  name-own = subst (λ (a : List ℕ × ℤ × ℤ × ℤ). has_name (tiles_in f ts names) a k ≡ true) (sym name-read) (named-own (tiles_in f ts names) k)
