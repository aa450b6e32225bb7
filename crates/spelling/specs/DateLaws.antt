-- 2026-06, "a month's length from its number": what the code works out is what the table of the twelve says.
use Rattle.std.specs.Prelude.{ℕ, ◌+◌, ◌-◌, ◌/◌, ◌%◌, ◌≤◌, ◌≡◌, Bool, cond, eqb}
use Rattle.std.proofs.Common.{subst, arith, eqb→eq}
use Rattle.octets.specs.TableLaws.{at}
use Rattle.spelling.specs.Dates.{month_lengths, common_length}

-- 28 for February; else 31 and 30 by turns, and anew from August on
abbrev pub by_number : ℕ → ℕ
by_number m = cond (eqb m 2) 28 (30 + (m + m / 8) % 2)

-- an entry of the table, which counts its places from 0, is the length of the month of that number
agrees : ℕ → ℕ → Bool
agrees k days = eqb days (by_number (k + 1))

-- "no answer of the date check may change": the twelve lengths are those of the table, by computation
pub by_number_lem : (m : ℕ) → 1 ≤ m → m ≤ 12 → common_length m ≡ by_number m
unfolding common_length month_lengths agrees
by_number_lem m l h =
    let e : m - 1 + 1 ≡ m = omega arith in
    subst (λ (n : ℕ). common_length m ≡ by_number n) e (eqb→eq _ _ (at agrees month_lengths tt (m - 1) (omega arith)))
