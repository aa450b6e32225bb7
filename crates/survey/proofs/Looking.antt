-- The laws of a look over rows, in the shape in which goals ask for them.
use Prim.Native.Nat.{ℕ, ◌+◌, ◌/◌, ◌<◌}
use mathlib.Core.Path.{◌≡◌, refl, sym, ap, ◌∙◌}
use mathlib.Core.List.{List}
use mathlib.Core.Bool.{Bool, true, false, cond, not, ◌||◌}
use mathlib.Core.Logic.{⊎_elim}
use native.Mathlib.Nat.{eq-or-lt_of_le}
use native.Mathlib.Omega.{arith}
use lib.Dec.{ltb}
use lib.ListN.{length}
use Rattle.octets.specs.Numbers.{signed}
use Rattle.octets.specs.Search.{first, any, SoughtAny}
use Rattle.octets.specs.Texts.{spell}
use Rattle.pack.specs.declared.MatrixRow.{MatrixRow}
use Rattle.pack.specs.declared.TileRow.{TileRow}
use Rattle.pack.specs.Tables.{matrix_row, tile_in, matrix_of, tile_of, contents_of, matrices_of, tiles_in}
use Rattle.pack.specs.declared.Form.{Form}
use Rattle.rules.specs.Judgments.{none, partner, fault_if, Judgment}
use Rattle.rules.specs.Contents.{is_tiles_name}
use Rattle.rules.specs.Matrices.{at_level, breaks351, of431}
use Rattle.pack.specs.Rows.{Matrix, Tile}
use Rattle.rules.specs.Tiles.{placed, of441}
use Rattle.survey.specs.Surveys.{step_at, named_at, level_at, placed_at, Quiet}
use Rattle.std.proofs.lemmas.Bool.{false≢true}
use Rattle.octets.proofs.SearchLaws.{any_by, none-at}
use Rattle.std.specs.Prelude.{None, Some, is_some}

-- a row of which nothing is seen is clean
clean-unseen : (v : Judgment) → is_some v ≡ false → v ≡ None
clean-unseen None e = refl
clean-unseen (Some j) e = absurd (false≢true (sym e))

-- a search among the rows for one of which something is seen
pub quiet_sought : (f : ℕ → Judgment) (says : ℕ → Bool → Type 0) (n m : ℕ) (b : Bool) → ((i : ℕ) (r : Bool) → i < n → says i r → r ≡ is_some (f i)) → SoughtAny says 0 n b → n ≡ m
    → Quiet f m b
unfolding first
quiet_sought f says n m b h s e = record {
  clean = λ z i l.
      let q : any (λ j. is_some (f j)) n ≡ false = sym (any_by (λ j. is_some (f j)) says 0 n refl (λ k r a l. h k r l) b s) ∙ z in
      clean-unseen (f i) (none-at (λ j. is_some (f j)) n q i (omega arith));
}

-- what the code says of a row, and what is looked for
pub hit_said : (f : ℕ → Judgment) (i : ℕ) (v : Judgment) (r : Bool) → r ≡ is_some v → v ≡ f i → r ≡ is_some (f i)
hit_said f i v r e q = e ∙ ap is_some q

-- a look over row after row: nothing is seen before the first
pub look_start : (f : ℕ → Judgment) → Quiet f 0 false
look_start f = record { clean = λ e i l. absurd (omega arith) }

-- and after row i what was seen before, or is of that row
pub look_more : (f : ℕ → Judgment) (i : ℕ) (seen now : Bool) (v : Judgment) → Quiet f i seen → now ≡ is_some v → v ≡ f i → Quiet f (i + 1) (seen || now)
look_more f i seen now v k e q = record {
  clean = λ z j b.
      let u = neither seen now z in
      ⊎_elim {C = f j ≡ None} (λ (h : j ≡ i). ap f h ∙ sym q ∙ clean-unseen v (sym e ∙ u.1)) (λ (h : j < i). k.clean u.0 j h) (eq-or-lt_of_le {n = j} {m = i} (omega arith));
}
  where
    neither : (a b : Bool) → (a || b) ≡ false → (a ≡ false) × (b ≡ false)
    neither true b z = absurd (false≢true (sym z))
    neither false b z = (refl, z)

-- ---- what the code says of a row is what is looked for
module _ (t names : List ℕ) (i : ℕ) (v : Judgment) (q : MatrixRow) (r : q ≡ matrix_row t i) where
  step_said : (k : ℕ) → k ≡ first (λ j. breaks351 (matrix_of names q) ((matrices_of t names).row j)) (length t / 64) → v ≡ partner k (length t / 64) → v ≡ step_at (matrices_of t names) i
  unfolding step_at
  step_said k f g =
      g ∙ ap (λ (j : ℕ). partner j (length t / 64)) f ∙ ap (λ (x : MatrixRow). partner (first (λ j. breaks351 (matrix_of names x) ((matrices_of t names).row j)) (length t / 64)) (length t / 64)) r

  pub step_seen : (k : ℕ) (seen : Bool) → seen ≡ is_some v → k ≡ first (λ j. breaks351 (matrix_of names q) ((matrices_of t names).row j)) (length t / 64) → v ≡ partner k (length t / 64)
      → seen ≡ is_some (step_at (matrices_of t names) i)
  step_seen k seen e f g = e ∙ ap is_some (step_said k f g)

  pub name_said : (cs : List ℕ) → v ≡ fault_if (not (is_tiles_name (contents_of cs names) (spell names q.name))) → v ≡ named_at (contents_of cs names) (matrices_of t names) i
  unfolding named_at of431 matrix_of
  name_said cs f = f ∙ ap (λ (x : MatrixRow). fault_if (not (is_tiles_name (contents_of cs names) (spell names x.name)))) r

module _ (g : Form) (ts : List (List ℕ)) (ms names : List ℕ) (i : ℕ) (v : Judgment) (a : TileRow) (r : a ≡ tile_in g ts i) (k : ℕ)
    (f : k ≡ first (λ j. at_level (spell names a.name) (signed a.zoom) ((matrices_of ms names).row j)) (length ms / 64)) where
  -- the first matrix row of a row's level
  abbrev first_level : TileRow → ℕ
  first_level x = first (λ j. at_level (spell names x.name) (signed x.zoom) ((matrices_of ms names).row j)) (length ms / 64)

  pub level_said : (m : ℕ) → m ≡ length ms / 64 → v ≡ cond (ltb k m) None (Some none) → v ≡ level_at (matrices_of ms names) (tiles_in g ts names) i
  unfolding level_at of441 any tile_of
  level_said m s w =
      w ∙ ap (λ (j : ℕ). cond (ltb j m) None (Some none)) f ∙ ap (λ (j : ℕ). cond (ltb (first_level a) j) None (Some none)) s
      ∙ ap (λ (x : TileRow). cond (ltb (first_level x) (length ms / 64)) None (Some none)) r

  pub placed_said : (off : Tile → Matrix → Bool) → v ≡ placed off (matrices_of ms names) (tile_of names a) k → v ≡ placed_at off (matrices_of ms names) (tiles_in g ts names) i
  unfolding placed_at tile_of
  placed_said off w =
      w ∙ ap (placed off (matrices_of ms names) (tile_of names a)) f ∙ ap (λ (x : TileRow). placed off (matrices_of ms names) (tile_of names x) (first_level x)) r
