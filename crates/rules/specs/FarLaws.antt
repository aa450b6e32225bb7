-- 2026-02: "no new finding may appear". A row has 451 (452) now only if it had it before, and then with the same partner.
use Rattle.std.specs.Prelude.{◌≡◌, refl, Bool, true, false, cond, not, ◌⊎◌, ℕ, ltb, None}
use Rattle.std.proofs.lemmas.Bool.{false≢true}
use Rattle.std.proofs.Common.{inl, inr}
use Rattle.doubles.specs.FarLaws.{spans_x_before, spans_y_before, still_measures}
use Rattle.doubles.specs.declared.Extent.{Extent}
use Rattle.pack.specs.Rows.{Rows, MatrixSet, Matrix}
use Rattle.rules.specs.Judgments.{fault_if, first_row, Judgment}
use Rattle.rules.specs.Contents.{set_named}
use Rattle.rules.specs.Matrices.{fits451, fits452, measured, of451, of452}

-- 451 and 452 as document 01 has them
unfoldable pub fits451_before : Matrix → Extent → Bool
fits451_before m e = spans_x_before e m.width m.tile_width m.pixel_x

unfoldable pub fits452_before : Matrix → Extent → Bool
fits452_before m e = spans_y_before e m.height m.tile_height m.pixel_y

unfoldable pub of451_before : Rows MatrixSet → Matrix → Judgment
of451_before ss m = measured fits451_before ss m (first_row (set_named m.name) ss)

unfoldable pub of452_before : Rows MatrixSet → Matrix → Judgment
of452_before ss m = measured fits452_before ss m (first_row (set_named m.name) ss)

-- a judgment that is clean or as it was
abbrev pub Fewer : Judgment → Judgment → Type 0
Fewer now before = (now ≡ None) ⊎ (now ≡ before)

fault_fewer : (now before : Bool) → (before ≡ true → now ≡ true) → Fewer (fault_if (not now)) (fault_if (not before))
fault_fewer true before h = inl refl
fault_fewer false true h = absurd (false≢true (h refl))
fault_fewer false false h = inr refl

measured_fewer : (now before : Matrix → Extent → Bool) → ((m : Matrix) (e : Extent) → before m e ≡ true → now m e ≡ true)
    → (ss : Rows MatrixSet) (m : Matrix) (k : ℕ) → Fewer (measured now ss m k) (measured before ss m k)
unfolding measured
measured_fewer now before h ss m k = by (ltb k ss.count)
  where
    by : (b : Bool) → Fewer (cond b (fault_if (not (now m (ss.row k).extent))) None) (cond b (fault_if (not (before m (ss.row k).extent))) None)
    by true = fault_fewer _ _ (h m (ss.row k).extent)
    by false = inl refl

pub fewer451 : (ss : Rows MatrixSet) (m : Matrix) → Fewer (of451 ss m) (of451_before ss m)
unfolding of451 of451_before fits451 fits451_before
fewer451 ss m = measured_fewer fits451 fits451_before (λ q e. still_measures e.min_x e.max_x q.width q.tile_width q.pixel_x) ss m _

pub fewer452 : (ss : Rows MatrixSet) (m : Matrix) → Fewer (of452 ss m) (of452_before ss m)
unfolding of452 of452_before fits452 fits452_before
fewer452 ss m = measured_fewer fits452 fits452_before (λ q e. still_measures e.min_y e.max_y q.height q.tile_height q.pixel_y) ss m _
