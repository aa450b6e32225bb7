-- What a survey says of the codes: where it has seen nothing, a row of theirs is clean.
use Rattle.std.specs.Prelude.{None, Some, ℕ, ◌<◌, ◌≡◌, Bool, eqb, not, ◌&&◌}
use Rattle.std.proofs.Math.Path.{refl}
use Rattle.std.proofs.Common.{sym, ap}
use Rattle.std.proofs.Math.Bool.{true, false, cond, and-eq-true_iff}
use Rattle.std.proofs.lemmas.Bool.{false≢true}
use Rattle.std.proofs.Math.Dec.{ltb}
use borrow.Author.Tests.{ltb-true, eqb-true}
use Rattle.octets.specs.Numbers.{eq_z}
use Rattle.octets.specs.Search.{first, any}
use Rattle.octets.proofs.SearchLaws.{first-lowest}
use Rattle.octets.proofs.TextLaws.{same_equal}
use Rattle.pack.specs.Rows.{Rows, Content, Matrix, Tile, Extension, Pack, rows_in}
use Rattle.rules.specs.Judgments.{none, some, lowest, Judgment}
use Rattle.rules.specs.Matrices.{matrix_named, at_level, tile_named, frees, breaks351, of351, of431}
use Rattle.rules.specs.Tiles.{of341, of441, of551, of561, of571}
use Rattle.rules.specs.Codes.{judged}
use Rattle.index.specs.ChainLaws.{by_test}
use Rattle.judge.specs.RangeLaws.{inside_551}
use Rattle.survey.specs.declared.Survey.{Survey}
use Rattle.survey.specs.Surveys.{step_at, named_at, level_at, placed_at, Quiet, Surveyed, quiet_tile, quiet_matrix, quiet_by}

-- a finding is not clean
abbrev is_clean : Judgment → Bool
is_clean None = true
is_clean (Some j) = false

not-hit : (j : ℕ) → Some j ≡ None → ⊥
not-hit j e = false≢true (ap is_clean e)

-- ---- 351: the gates only take findings away
pub quiet_351 : (ms : Rows Matrix) (ts : Rows Tile) (es : Rows Extension) (m : Matrix) → lowest (breaks351 m) ms ms.count ≡ None → of351 ms ts es m ≡ None
unfolding of351
quiet_351 ms ts es m e = simp e (by (some (tile_named m.name) ts) (some (frees m.name) es))
  where
    by : (a b : Bool) → ◌≡◌ {A = Judgment} (cond a (cond b None None) None) None
    by true true = refl
    by true false = refl
    by false b = refl

-- ---- 441: clean, the tile's level has a row
module _ (ms : Rows Matrix) (t : Tile) (e : of441 ms t ≡ None) where
  abbrev level : ℕ → Bool
  level j = at_level t.name t.zoom (ms.row j)

  abbrev k : ℕ
  k = first level ms.count

  there : k < ms.count
  unfolding of441 any
  there = by (ltb k ms.count) refl e
    where
      by : (b : Bool) → ltb k ms.count ≡ b → cond b None (Some none) ≡ None → k < ms.count
      by true f q = ltb-true _ _ f
      by false f q = absurd (not-hit none q)

  parts : (matrix_named t.name (ms.row k) ≡ true) × (eq_z t.zoom (ms.row k).zoom ≡ true)
  unfolding at_level
  parts = (and-eq-true_iff (matrix_named t.name (ms.row k)) (eq_z t.zoom (ms.row k).zoom)).0 ((first-lowest level ms.count).here there)

  -- so its zoom is inside the range
  pub quiet_551 : of551 ms t ≡ None
  quiet_551 = sym (inside_551 ms t k refl there)

  -- and where each matrix has a tiles name, so has the tile
  pub quiet_341 : (cs : Rows Content) → ((i : ℕ) → i < ms.count → of431 cs (ms.row i) ≡ None) → of341 cs t ≡ None
  unfolding of341 of431 matrix_named
  quiet_341 cs h = rw (same_equal t.name (ms.row k).name parts.0) (h k there)

-- ---- where something was seen, nothing is said
quiet_unknown : (f : ℕ → Judgment) (n : ℕ) → Quiet f n true
quiet_unknown f n = record { clean = λ e i l. absurd (false≢true (sym e)) }

pub surveyed_unknown : (p : Pack) → Surveyed p (record { steps = true; names = true; levels = true; columns = true; rows = true })
surveyed_unknown p = record {
  steps = quiet_unknown _ _;
  names = quiet_unknown _ _;
  levels = quiet_unknown _ _;
  columns = quiet_unknown _ _;
  rows = quiet_unknown _ _;
}

-- ---- the codes
unseen : (a : Bool) → not a ≡ true → a ≡ false
unseen true e = absurd (false≢true e)
unseen false e = refl

both : (a b : Bool) → (not a && not b) ≡ true → (a ≡ false) × (b ≡ false)
both true b e = absurd (false≢true e)
both false b e = (refl, unseen b e)

module _ (p : Pack) (s : Survey) (h : Surveyed p s) where
  module _ (i : ℕ) (l : i < p.tiles.count) where
    leveled : s.levels ≡ false → of441 p.matrices (p.tiles.row i) ≡ None
    unfolding level_at
    leveled z = h.levels.clean z i l

    tile : (code : ℕ) → quiet_tile s code ≡ true → judged p code i ≡ None
    unfolding quiet_tile judged named_at placed_at of561 of571
    tile code e =
        by_test (eqb code 341)
        (λ t.
        let f = both s.names s.levels (simp t at e) in
        rw (eqb-true code 341 t) (quiet_341 p.matrices (p.tiles.row i) (leveled f.1) p.contents (h.names.clean f.0)))
        (λ t₁.
        by_test (eqb code 441)
        (λ t. rw (eqb-true code 441 t) (leveled (unseen _ (simp (t₁, t) at e))))
        (λ t₂.
        by_test (eqb code 551)
        (λ t. rw (eqb-true code 551 t) (quiet_551 p.matrices (p.tiles.row i) (leveled (unseen _ (simp (t₁, t₂, t) at e)))))
        (λ t₃.
        by_test (eqb code 561)
        (λ t. rw (eqb-true code 561 t) (h.columns.clean (unseen _ (simp (t₁, t₂, t₃, t) at e)) i l))
        (λ t₄.
        by_test (eqb code 571)
        (λ t. rw (eqb-true code 571 t) (h.rows.clean (unseen _ (simp (t₁, t₂, t₃, t₄, t) at e)) i l))
        (λ t₅. absurd (false≢true (simp (t₁, t₂, t₃, t₄, t₅) at e)))))))

  matrix : (i : ℕ) → i < p.matrices.count → (code : ℕ) → quiet_matrix s code ≡ true → judged p code i ≡ None
  unfolding quiet_matrix judged step_at named_at
  matrix i l code e =
      by_test (eqb code 351)
      (λ t. rw (eqb-true code 351 t) (quiet_351 p.matrices p.tiles p.extensions (p.matrices.row i) (h.steps.clean (unseen _ (simp t at e)) i l)))
      (λ t₁.
      by_test (eqb code 431)
      (λ t. rw (eqb-true code 431 t) (h.names.clean (unseen _ (simp (t₁, t) at e)) i l))
      (λ t₂. absurd (false≢true (simp (t₁, t₂) at e))))

  pub quiet_row : (code table : ℕ) → quiet_by s code table ≡ true → (i : ℕ) → i < rows_in p table → judged p code i ≡ None
  unfolding quiet_by rows_in
  quiet_row code table e i l =
      by_test (eqb table 5)
      (λ t. tile i (rw (eqb-true table 5 t) at l) code (simp t at e))
      (λ t₁.
      by_test (eqb table 4)
      (λ t. matrix i (rw (eqb-true table 4 t) at l) code (simp (t₁, t) at e))
      (λ t₂. absurd (false≢true (simp (t₁, t₂) at e))))
