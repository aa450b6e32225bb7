-- Keys of every kind: a row that answers to a key has it (sound), and a row of a sure kind answers to its own (own).
use Prim.Native.Nat.{ℕ}
use mathlib.Core.Path.{◌≡◌, refl, sym, ◌∙◌}
use mathlib.Core.List.{List}
use mathlib.Core.Bool.{Bool, true, not, ◌&&◌, and-eq-true_iff, false≢true}
use lib.IntN.{ℤ, pos, negsuc}
use borrow.Author.Tests.{eq-eqb}
use lib.Signed.{lt_z}
use Rattle.octets.specs.Numbers.{signed, eq_z}
use Rattle.octets.specs.NumberLaws.{eq_z_true}
use Rattle.octets.specs.Texts.{same, spell}
use Rattle.octets.proofs.TextLaws.{same_equal, same_refl}
use Rattle.pack.specs.declared.MatrixRow.{MatrixRow}
use Rattle.pack.specs.Tables.{matrix_of, contents_of, sets_of, matrices_of}
use Rattle.spelling.specs.Words.{tiles}
use Rattle.rules.specs.Contents.{of_type, gives_tiles, content_named, set_named}
use Rattle.rules.specs.Matrices.{matrix_named, at_level, finer, breaks531}
use Rattle.index.specs.declared.Kind.{Kind}
use Rattle.index.specs.declared.Kind.TheVariants as kind
use Rattle.index.specs.declared.Key.{Key}
use Rattle.index.specs.declared.Key.TheVariants as key
use Rattle.index.specs.Keys.{key_of, answers, sure, kind_of, meaning, content_spelled}

pub eq_z_refl : (z : ℤ) → eq_z z z ≡ true
eq_z_refl (pos a) = eq-eqb a a refl
eq_z_refl (negsuc a) = eq-eqb a a refl

-- a key that is a name alone
pub by_name : {x y : List ℕ} → x ≡ y → ◌≡◌ {A = List ℕ × ℤ × ℤ × ℤ} (x, pos 0, pos 0, pos 0) (y, pos 0, pos 0, pos 0)
by_name e i = (e i, pos 0, pos 0, pos 0)

module _ (t names : List ℕ) where
  -- of a contents row the name may stand in octets of its own
  pub content-sound : (x : List ℕ) (k : ℕ) → content_spelled t names x k ≡ true → ◌≡◌ {A = List ℕ × ℤ × ℤ × ℤ} (x, pos 0, pos 0, pos 0) (key_of kind.ContentName t names k)
  unfolding content_named
  content-sound x k e = by_name (same_equal _ _ e)

  sound : (a : Key) (k : ℕ) → answers (kind_of a) t names (meaning names a) k ≡ true → meaning names a ≡ key_of (kind_of a) t names k
  unfolding at_level matrix_named gives_tiles set_named
  sound (key.Level x z) k e =
      let q = (matrices_of t names).row k in
      let a = meaning names (key.Level x z) in
      let f = (and-eq-true_iff (same a.0 q.name) (eq_z a.1 q.zoom)).0 e in
      let x' : a.0 ≡ q.name = same_equal _ _ f.0 in
      let z' : a.1 ≡ q.zoom = eq_z_true _ _ f.1 in
      λ i. (x' i, z' i, pos 0, pos 0)
  sound (key.MatrixName x) k e = by_name (same_equal _ _ e)
  sound (key.TilesName x) k e =
      let q = (contents_of t names).row k in by_name (same_equal _ _ ((and-eq-true_iff (same (meaning names (key.TilesName x)).0 q.name) (of_type tiles q)).0 e).0)
  sound (key.ContentName x) k e = content-sound (spell names x) k e
  sound (key.SetName x) k e = by_name (same_equal _ _ e)

  -- where the kind is known
  pub key_sound : (s : Kind) (a : Key) → kind_of a ≡ s → (k : ℕ) → answers s t names (meaning names a) k ≡ true → meaning names a ≡ key_of s t names k
  key_sound s a e k f = rw e at (sound a k (rw (← e) at f))

  own : (s : Kind) → sure s ≡ true → (k : ℕ) → answers s t names (key_of s t names k) k ≡ true
  unfolding at_level matrix_named content_named set_named
  own kind.Level o k = let q = (matrices_of t names).row k in simp (sym (same_refl q.name), eq_z_refl q.zoom)
  own kind.MatrixName o k = sym (same_refl ((matrices_of t names).row k).name)
  own kind.TilesName o k = absurd (false≢true o)
  own kind.ContentName o k = sym (same_refl ((contents_of t names).row k).name)
  own kind.SetName o k = sym (same_refl ((sets_of t names).row k).name)

  -- b is what was told of its kind
  pub key_own : (a : Key) (s : Kind) (k : ℕ) (b : Bool) → meaning names a ≡ key_of (kind_of a) t names k → s ≡ kind_of a → b ≡ sure s → b ≡ true
      → true ≡ answers (kind_of a) t names (meaning names a) k
  key_own a s k b e q f o = sym (rw e (own (kind_of a) (rw q at (sym f ∙ o)) k))

  -- a row that breaks 531 with a row has its name
  pub named_531 : (m : MatrixRow) (k : ℕ) → breaks531 (matrix_of names m) ((matrices_of t names).row k) ≡ true → meaning names (key.MatrixName m.name) ≡ key_of kind.MatrixName t names k
  unfolding breaks531 matrix_named matrix_of
  named_531 m k e =
      let q = (matrices_of t names).row k in
      by_name (same_equal _ _ ((and-eq-true_iff (same (spell names m.name) q.name) (lt_z q.zoom (signed m.zoom) && not (finer (matrix_of names m) q))).0 e).0)
