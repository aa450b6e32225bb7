-- What document 01, "What counts as a finding", says of doubles: "near", and what rules 351, 451, 452, 511, 521 and 531 ask of them, over the values of IEEE 754; and the second way of 451 and 452, by document 02, 2026-02.
use Rattle.std.specs.Prelude.{ℕ, ◌+◌, ◌-◌, ◌*◌, ◌%◌, ◌^◌, max, Bool, false, cond, ◌&&◌, ◌||◌, leb, ltb, ℤ, pos, Float}
use Rattle.std.specs.Float.{inf, fin, binary64}
use Rattle.std.specs.Float.Ieee.{lt, le, sub, mul, of_int, to_bits, of_bits}
use Rattle.octets.specs.Numbers.{natural}
use Rattle.doubles.specs.declared.Extent.{Extent}

-- "finite and above 0" (511, 521). A NaN is neither above 0 nor below the infinity
unfoldable pub positive : Float → Bool
positive x = lt (fin false 0 (pos 0)) x && lt x (inf false)

-- how far apart two whole numbers are: `-` stops at 0, so one of the two differences is 0
abbrev pub apart : ℕ → ℕ → ℕ
apart x y = (x - y) + (y - x)

-- "both doubles are finite and above 0, and their bit patterns read as whole numbers differ by at most 4"
unfoldable pub near : Float → Float → Bool
near a b = positive a && (positive b && leb (apart (to_bits binary64 a) (to_bits binary64 b)) 4)

-- "twice this row's" (351): 2 times x, rounded once
unfoldable pub twice : Float → Float
twice x = mul binary64 (fin false 1 (pos 1)) x

-- "strictly below" (531). A NaN is strictly below nothing, and nothing is strictly below it
abbrev pub strictly_below : Float → Float → Bool
strictly_below a b = lt a b

-- ---- 451 and 452: near as document 01 has it, and the second way that 2026-02 puts beside it

-- the pattern of a double's magnitude: its own less the sign. The larger magnitude has the greater pattern (`larger`)
unfoldable pub magnitude : Float → ℕ
magnitude x = to_bits binary64 x % 2 ^ 63

-- "the gap from the corner larger in magnitude to the next double above that magnitude": the next double has the next pattern (`none_between`), and the gap is exact (`gap_exact`).
-- Above the greatest double that is the infinity's, so the gap is not finite
unfoldable pub gap_above : ℕ → Float
gap_above n = sub binary64 (of_bits binary64 (n + 1)) (of_bits binary64 n)

unfoldable pub gap_of : Float → Float → Float
gap_of low high = gap_above (max (magnitude low) (magnitude high))

-- "the difference rounded once": the greater less the other
unfoldable pub difference : Float → Float → Float
difference a b = cond (lt a b) (sub binary64 b a) (sub binary64 a b)

-- "both finite and above 0 and differ, the difference rounded once, by at most four times the gap", which is exact (`four_exact`). "A gap that isn't finite passes nothing"
unfoldable pub within_four : Float → Float → Float → Bool
within_four gap a b = positive a && (positive b && (positive gap && le (difference a b) (mul binary64 (fin false 1 (pos 2)) gap)))

-- either way: an extent from low to high and a product are near, or within four gaps of the corners
unfoldable pub same_length : Float → Float → Float → Float → Bool
same_length low high extent product = near extent product || within_four (gap_of low high) extent product

-- "width and tile width are positive, their product is at most 2^53, and max_x - min_x, rounded once," passes a test with "that product times pixel_x_size, rounded once".
-- A number that is not positive has the natural number 0; the product is a double exactly
unfoldable pub measures_by : (Float → Float → Bool) → Float → Float → ℤ → ℤ → Float → Bool
measures_by test low high count size pixel =
    ltb 0 (natural count) && (ltb 0 (natural size) && (leb (natural count * natural size) (2 ^ 53)
    && test (sub binary64 high low) (mul binary64 (of_int binary64 (pos (natural count * natural size))) pixel)))

-- "the width conditions stay": they stand before both ways
unfoldable pub measures : Float → Float → ℤ → ℤ → Float → Bool
measures low high = measures_by (same_length low high) low high

-- 451 of an extent, width, tile width and pixel_x_size
abbrev pub spans_x : Extent → ℤ → ℤ → Float → Bool
spans_x e count size pixel = measures e.min_x e.max_x count size pixel

-- "452 likewise for y"
abbrev pub spans_y : Extent → ℤ → ℤ → Float → Bool
spans_y e count size pixel = measures e.min_y e.max_y count size pixel
