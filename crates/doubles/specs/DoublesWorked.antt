-- Worked examples of doubles, on both sides of each line of document 01, computed from the definitions alone.
use Rattle.std.specs.Prelude.{ℕ, ◌+◌, ◌^◌, ◌≡◌, refl, Bool, true, false, List, [], ◌∷◌, map, ℤ, pos, negsuc, Float}
use Rattle.std.proofs.Math.Bool.{and-false}
use Rattle.std.specs.Float.{binary64}
use Rattle.std.specs.Float.Ieee.{of_bits, to_bits, of_int, lt, le, sub, mul}
use Rattle.doubles.specs.Doubles.{positive, near, twice, strictly_below, magnitude, gap_above, gap_of, difference, within_four, same_length, measures_by, measures, spans_x, spans_y}
use Rattle.doubles.specs.declared.Extent.{Extent}

-- doubles are given by their patterns, so that "four steps above 1.0" is `one + 4`
abbrev pub double : ℕ → Float
double bits = of_bits binary64 bits

abbrev pub one : ℕ
one = 0x3ff0_0000_0000_0000

abbrev pub minus_one : ℕ
minus_one = 0xbff0_0000_0000_0000

-- 1024
abbrev pub kilo : ℕ
kilo = 0x4090_0000_0000_0000

abbrev pub minus_zero : ℕ
minus_zero = 0x8000_0000_0000_0000

abbrev pub largest : ℕ
largest = 0x7fef_ffff_ffff_ffff

abbrev pub infinite : ℕ
infinite = 0x7ff0_0000_0000_0000

abbrev pub no_number : ℕ
no_number = 0x7ff8_0000_0000_0000

abbrev pub is_near : ℕ → ℕ → Bool
is_near a b = near (double a) (double b)

abbrev pub is_below : ℕ → ℕ → Bool
is_below a b = strictly_below (double a) (double b)

abbrev pub is_measured : ℕ → ℕ → ℤ → ℤ → ℕ → Bool
is_measured low high count size pixel = measures (double low) (double high) count size (double pixel)

-- 1024 wide and 512 high
abbrev pub wide : Extent
wide = record { min_x = double 0; min_y = double 0; max_x = double kilo; max_y = double 0x4080_0000_0000_0000 }

-- a question and its answer
abbrev pub rows : List (Bool × Bool)
rows =
    (is_near one one, true)
    ∷ (is_near one (one + 4), true)
    ∷ (is_near one (one + 5), false)
    ∷ (is_near (one + 4) one, true)
    ∷ (is_near (one + 5) one, false)
    ∷ (is_near 1 5, true)  -- the least double, and four steps above it
    ∷ (is_near 0 0, false)
    ∷ (is_near 0 1, false)
    ∷ (is_near minus_zero minus_zero, false)
    ∷ (is_near minus_one minus_one, false)
    ∷ (is_near largest largest, true)
    ∷ (is_near largest infinite, false)  -- one step
    ∷ (is_near infinite infinite, false)
    ∷ (is_near no_number no_number, false)
    ∷ (is_near one no_number, false)
    ∷ (positive (double minus_zero), false)
    ∷ (near (twice (double one)) (double 0x4000_0000_0000_0000), true)
    ∷ (near (twice (double largest)) (double largest), false)
    ∷ (near (twice (double largest)) (double infinite), false)
    ∷ (is_below one (one + 1), true)
    ∷ (is_below one one, false)
    ∷ (is_below minus_zero 0, false)
    ∷ (is_below one no_number, false)
    ∷ (is_below no_number one, false)
    ∷ (is_measured 0 kilo (pos 4) (pos 256) one, true)
    ∷ (is_measured 0 kilo (pos 4) (pos 256) (one + 4), true)
    ∷ (is_measured 0 kilo (pos 4) (pos 256) (one + 5), false)
    ∷ (is_measured 0xc173_1bf8_457c_1093 0x4173_1bf8_457c_1093 (pos 1) (pos 256) 0x4103_1bf8_457c_1093, true)  -- the web's Mercator square, whose corners are no whole numbers
    ∷ (is_measured 0 0x4340_0000_0000_0000 (pos (2 ^ 53)) (pos 1) one, true)
    ∷ (is_measured 0 0x4340_0000_0000_0000 (pos (2 ^ 53 + 1)) (pos 1) one, false)  -- one above 2^53, though it rounds to 2^53
    ∷ (is_measured 0 0x4340_0000_0000_0000 (pos 3002399751580331) (pos 3) one, false)  -- the same product
    ∷ (is_measured 0 kilo (pos (2 ^ 62)) (pos 4) one, false)  -- in 64 bits the product would be 0
    ∷ (is_measured 0 kilo (pos (2 ^ 62 + 1)) (pos 4) 0x4070_0000_0000_0000, false)  -- and here 4, at a pixel of 256
    ∷ (is_measured 0 kilo (negsuc 3) (negsuc 255) one, false)  -- -4 times -256
    ∷ (is_measured 0 kilo (negsuc 3) (pos 256) minus_one, false)
    ∷ (is_measured 0 kilo (pos 0) (pos 256) one, false)
    ∷ (is_measured kilo 0 (pos 4) (pos 256) one, false)  -- reversed
    ∷ (is_measured kilo 0 (pos 4) (pos 256) minus_one, false)
    ∷ (is_measured kilo kilo (pos 4) (pos 256) 0, false)  -- empty
    ∷ (is_measured no_number kilo (pos 4) (pos 256) one, false)
    ∷ (is_measured 0 infinite (pos 4) (pos 256) infinite, false)
    ∷ (spans_x wide (pos 4) (pos 256) (double one), true)
    ∷ (spans_x wide (pos 2) (pos 256) (double one), false)
    ∷ (spans_y wide (pos 2) (pos 256) (double one), true)
    ∷ (spans_y wide (pos 4) (pos 256) (double one), false)
    ∷ []

pub worked : map (λ row. row.0) rows ≡ map (λ row. row.1) rows
unfolding positive near twice magnitude gap_above gap_of difference within_four same_length measures_by measures of_bits to_bits of_int lt le sub mul
worked = refl

-- twice the largest is the infinity, which nothing is near
pub twice-largest : (x : Float) → near x (twice (double largest)) ≡ false
unfolding near positive twice of_bits lt mul
twice-largest x = and-false (positive x)
