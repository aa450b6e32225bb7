-- 2026-02: "no new finding may appear". What measured an extent before the request measures it now.
use Rattle.std.specs.Prelude.{◌*◌, ◌^◌, ◌≡◌, Bool, true, false, ◌&&◌, leb, ltb, ℤ, pos, Float}
use Rattle.std.proofs.lemmas.Bool.{false≢true}
use Rattle.std.specs.Float.{binary64}
use Rattle.std.specs.Float.Ieee.{sub, mul, of_int}
use Rattle.octets.specs.Numbers.{natural}
use Rattle.doubles.specs.Doubles.{near, same_length, measures_by, measures}
use Rattle.doubles.specs.declared.Extent.{Extent}

-- 451 and 452 as document 01 has them: near alone
unfoldable pub measures_before : Float → Float → ℤ → ℤ → Float → Bool
measures_before low high = measures_by near low high

abbrev pub spans_x_before : Extent → ℤ → ℤ → Float → Bool
spans_x_before e count size pixel = measures_before e.min_x e.max_x count size pixel

abbrev pub spans_y_before : Extent → ℤ → ℤ → Float → Bool
spans_y_before e count size pixel = measures_before e.min_y e.max_y count size pixel

-- what is near is the same length
near_same : (low high a b : Float) → near a b ≡ true → same_length low high a b ≡ true
unfolding same_length
near_same low high a b h = rw h

-- behind the same three conditions
behind : (a b c d e : Bool) → (d ≡ true → e ≡ true) → (a && (b && (c && d))) ≡ true → (a && (b && (c && e))) ≡ true
behind false b c d e f h = absurd (false≢true h)
behind true false c d e f h = absurd (false≢true h)
behind true true false d e f h = absurd (false≢true h)
behind true true true d e f h = f h

pub still_measures : (low high : Float) (count size : ℤ) (pixel : Float) → measures_before low high count size pixel ≡ true → measures low high count size pixel ≡ true
unfolding measures measures_before measures_by
still_measures low high count size pixel h =
    behind (ltb 0 (natural count)) (ltb 0 (natural size)) (leb (natural count * natural size) (2 ^ 53)) _ _
    (near_same low high (sub binary64 high low) (mul binary64 (of_int binary64 (pos (natural count * natural size))) pixel)) h
