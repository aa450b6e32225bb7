-- Tests that only rows with a key pass, so that an index has every row that they ask for.
use Prim.Native.Nat.{ℕ}
use mathlib.Core.Path.{◌≡◌, sym}
use mathlib.Core.List.{List}
use mathlib.Core.Bool.{Bool, true, not, ◌&&◌, and-eq-true_iff}
use lib.IntN.{pos, suc_ℤ}
use lib.Signed.{lt_z}
use Rattle.octets.specs.Numbers.{signed, eq_z}
use Rattle.octets.specs.Texts.{same, spell}
use Rattle.octets.proofs.TextLaws.{same_equal}
use Rattle.pack.specs.Tables.{matrix_row, matrix_of, matrices_of, tile_of}
use Rattle.pack.specs.declared.MatrixRow.{MatrixRow}
use Rattle.pack.specs.declared.TileRow.{TileRow}
use Rattle.rules.specs.Matrices.{matrix_named, near_twice, breaks351}
use Rattle.rules.specs.Tiles.{at_most, at_least}
use Rattle.index.specs.declared.Kind.TheVariants.{Level, MatrixName}
use Rattle.index.specs.Keys.{Confines}

module _ (t names : List ℕ) where
  -- by name: a test that asks for it
  by_name : (x : List ℕ) (test : ℕ → Bool) → ((k : ℕ) → test k ≡ true → matrix_named x ((matrices_of t names).row k) ≡ true)
      → Confines MatrixName t names (x, pos 0, pos 0, pos 0) test
  unfolding matrix_named
  by_name x test h = record { within = λ k e. let f : x ≡ ((matrices_of t names).row k).name = same_equal _ _ (h k e) in λ i. (f i, pos 0, pos 0, pos 0) }

  pub confines_named : (x : List ℕ) → Confines MatrixName t names (x, pos 0, pos 0, pos 0) (λ k. matrix_named x ((matrices_of t names).row k))
  confines_named x = by_name x (λ k. matrix_named x ((matrices_of t names).row k)) (λ k e. e)

  pub confines_most : (a : TileRow) → Confines MatrixName t names (spell names a.name, pos 0, pos 0, pos 0) (λ k. at_most (tile_of names a) ((matrices_of t names).row k))
  unfolding at_most tile_of
  confines_most a = by_name _ _ (λ k e. let q = (matrices_of t names).row k in ((and-eq-true_iff (matrix_named (spell names a.name) q) (not (lt_z (signed a.zoom) q.zoom))).0 e).0)

  pub confines_least : (a : TileRow) → Confines MatrixName t names (spell names a.name, pos 0, pos 0, pos 0) (λ k. at_least (tile_of names a) ((matrices_of t names).row k))
  unfolding at_least tile_of
  confines_least a = by_name _ _ (λ k e. let q = (matrices_of t names).row k in ((and-eq-true_iff (matrix_named (spell names a.name) q) (not (lt_z q.zoom (signed a.zoom)))).0 e).0)

  -- by level: one level lower, whose zoom is r
  pub confines_351 : (m : MatrixRow) (r : ℕ) → ((a : ℕ) → eq_z (suc_ℤ (signed a)) (signed m.zoom) ≡ true → signed a ≡ signed r)
      → Confines Level t names (spell names m.name, signed r, pos 0, pos 0) (λ k. breaks351 (matrix_of names m) ((matrices_of t names).row k))
  unfolding breaks351 matrix_of matrix_named
  confines_351 m r h = record {
    within = λ k e.
        let q = (matrices_of t names).row k in
        let f = (and-eq-true_iff (same (spell names m.name) q.name) (eq_z (suc_ℤ q.zoom) (signed m.zoom) && not (near_twice (matrix_of names m) q))).0 e in
        let g = (and-eq-true_iff (eq_z (suc_ℤ q.zoom) (signed m.zoom)) (not (near_twice (matrix_of names m) q))).0 f.1 in
        let x : spell names m.name ≡ q.name = same_equal _ _ f.0 in
        let z : signed r ≡ q.zoom = sym (h (matrix_row t k).zoom g.0) in
        λ i. (x i, z i, pos 0, pos 0);
  }
