-- Worked examples of 2026-02, packs far from the origin, on both sides of each of its lines, computed from the definitions alone.
use Rattle.std.specs.Prelude.{ℕ, ◌+◌, ◌-◌, ◌^◌, ◌≡◌, refl, Bool, true, false, List, [], ◌∷◌, map, pos, negsuc}
use Rattle.std.specs.Float.{binary64}
use Rattle.std.specs.Float.Ieee.{of_bits, to_bits, of_int, lt, le, sub, mul}
use Rattle.doubles.specs.Doubles.{positive, near, magnitude, gap_above, gap_of, difference, within_four, same_length, measures_by, measures, spans_x, spans_y}
use Rattle.doubles.specs.DoublesWorked.{double, one, kilo, minus_zero, largest, infinite, no_number, is_measured}
use Rattle.doubles.specs.declared.Extent.{Extent}

-- doubles by their patterns: 512; 2^22 and 1024 more; 2^52; 1 + 2^-38
abbrev pub half : ℕ
half = 0x4080_0000_0000_0000

abbrev pub far : ℕ
far = 0x4150_0000_0000_0000

abbrev pub farther : ℕ
farther = 0x4150_0100_0000_0000

abbrev pub distant : ℕ
distant = 0x4330_0000_0000_0000

abbrev pub wide_one : ℕ
wide_one = one + 2 ^ 14

-- the double of the other sign
abbrev pub minus : ℕ → ℕ
minus n = minus_zero + n

-- x near the origin and y far from it, each 1024 wide
abbrev pub hill : Extent
hill = record { min_x = double 0; min_y = double far; max_x = double kilo; max_y = double farther }

-- the second way alone
abbrev pub is_within : ℕ → ℕ → ℕ → ℕ → Bool
is_within low high a b = within_four (gap_of (double low) (double high)) (double a) (double b)

-- the gap of two corners, as a pattern
abbrev pub gap_bits : ℕ → ℕ → ℕ
gap_bits low high = to_bits binary64 (gap_of (double low) (double high))

-- two corners and their gap
abbrev pub gaps : List (ℕ × ℕ)
gaps =
    (gap_bits 0 one, 0x3cb0_0000_0000_0000)  -- 2^-52
    ∷ (gap_bits one 0, 0x3cb0_0000_0000_0000)
    ∷ (gap_bits (minus one) 0, 0x3cb0_0000_0000_0000)  -- away from 0, where the corner is negative
    ∷ (gap_bits (minus farther) half, 0x3e10_0000_0000_0000)  -- 2^-30: of the larger in magnitude
    ∷ (gap_bits (far - 1) far, 0x3e10_0000_0000_0000)  -- above 2^22, not the half below it
    ∷ (gap_bits (minus half) half, 0x3d40_0000_0000_0000)  -- 2^-43: equal magnitudes have the same gap
    ∷ (gap_bits minus_zero 0, 1)  -- the least double
    ∷ (gap_bits 0 (largest - 1), 0x7ca0_0000_0000_0000)  -- 2^971
    ∷ (gap_bits 0 largest, infinite)
    ∷ []

pub gaps-worked : map (λ row. row.0) gaps ≡ map (λ row. row.1) gaps
unfolding magnitude gap_above gap_of of_bits to_bits sub
gaps-worked = refl

-- a question and its answer, in the order of the readings
abbrev pub rows : List (Bool × Bool)
rows =
    (is_measured (minus half) half (pos 4) (pos 256) (one + 4), true)  -- near ..
    ∷ (is_within (minus half) half kilo (kilo + 4), false)  -- .. though beyond four gaps of 512
    ∷ (spans_x hill (pos 4) (pos 256) (double wide_one), false)  -- each axis has corners of its own
    ∷ (spans_y hill (pos 4) (pos 256) (double wide_one), true)
    ∷ (is_measured 0x414f_fe00_0000_0000 far (pos 4) (pos 256) wide_one, true)  -- up to 2^22: the gap above it, not the half below
    ∷ (is_measured 0x414f_fe00_0000_0000 far (pos 4) (pos 256) (wide_one + 1), false)
    ∷ (is_measured (minus farther) (minus far) (pos 4) (pos 256) wide_one, true)  -- west of the origin
    ∷ (is_measured (minus farther) (minus far) (pos 4) (pos 256) (wide_one + 1), false)
    ∷ (is_measured far farther (pos 4) (pos 256) wide_one, true)  -- four gaps exactly
    ∷ (is_measured far farther (pos 4) (pos 256) (wide_one + 1), false)
    ∷ (is_measured distant (distant + 5) (pos 1) (pos 1) (one - 4), true)  -- 4 + 2^-51 rounds to 4
    ∷ (is_measured distant (distant + 5) (pos 1) (pos 1) (one - 5), false)
    ∷ (is_measured 0 largest (pos 1) (pos 1) largest, true)  -- near
    ∷ (is_measured 0 largest (pos 1) (pos 1) (largest - 5), false)  -- the gap is not finite
    ∷ (is_measured 0 (largest - 1) (pos 1) (pos 1) (largest - 5), true)
    ∷ (is_measured 0 (largest - 1) (pos 1) (pos 1) (largest - 6), false)
    ∷ (is_measured minus_zero 0 (pos 1) (pos 1) 1, false)  -- nothing wide
    ∷ (is_measured far far (pos 1) (pos 1) 1, false)
    ∷ (is_measured far (far + 1) (pos 1) (pos 1) 0, false)  -- nothing in the matrix, though one gap off
    ∷ (is_measured far (far + 1) (pos 1) (pos 1) minus_zero, false)
    ∷ (is_measured farther far (pos 4) (pos 256) wide_one, false)  -- reversed
    ∷ (is_measured no_number farther (pos 4) (pos 256) wide_one, false)
    ∷ (is_measured far no_number (pos 4) (pos 256) wide_one, false)
    ∷ (is_measured far infinite (pos 4) (pos 256) wide_one, false)
    ∷ (is_measured (minus largest) largest (pos 4) (pos 256) wide_one, false)  -- the extent overflows
    ∷ (is_measured far farther (pos 4) (pos 256) no_number, false)
    ∷ (is_measured far farther (pos 4) (pos 256) (minus wide_one), false)
    ∷ (is_measured 0 1 (pos 1) (pos 1) 5, true)  -- the least double, where near has what four gaps have
    ∷ (is_measured 0 1 (pos 1) (pos 1) 6, false)
    ∷ (is_measured 0 kilo (pos 4) (pos 256) (one - 8), true)  -- no gate on distance: a step below 1024 is half its gap
    ∷ (is_measured 0 kilo (pos 4) (pos 256) (one - 9), false)
    ∷ (is_measured distant (distant + 4) (pos 1) (pos 1) 0x4020_0000_0000_0000, true)  -- 4 and 8, four gaps of 1 apart
    ∷ (is_measured distant (distant + 4) (pos 1) (pos 1) 0x4020_0000_0000_0001, false)
    ∷ (is_measured far farther (negsuc 3) (negsuc 255) wide_one, false)  -- the width conditions gate both ways
    ∷ (is_measured far farther (pos (2 ^ 53)) (pos 1) 0x3d40_0000_0000_4000, true)  -- a pixel of 2^-43 and a little more
    ∷ (is_measured far farther (pos (2 ^ 53 + 1)) (pos 1) 0x3d40_0000_0000_4000, false)
    ∷ []

pub worked : map (λ row. row.0) rows ≡ map (λ row. row.1) rows
unfolding positive near magnitude gap_above gap_of difference within_four same_length measures_by measures of_bits to_bits of_int lt le sub mul
worked = refl
