-- Rule 151: "last_change is not YYYY-MM-DDThh:mm:ss.sssZ".
use Rattle.std.specs.Prelude.{ℕ, ◌+◌, ◌*◌, ◌-◌, ◌%◌, List, [], ◌∷◌, Bool, cond, not, ◌&&◌, length, get_or, leb, eqb}
use Rattle.octets.specs.Search.{any}
use Rattle.spelling.specs.Characters.{between, digit}

-- "YYYY-MM-DDThh:mm:ss.sssZ", with the octet of d, 100, where a digit stands ("s also digits")
unfoldable pub form : List ℕ
form = 100 ∷ 100 ∷ 100 ∷ 100 ∷ 45 ∷ 100 ∷ 100 ∷ 45 ∷ 100 ∷ 100 ∷ 84 ∷ 100 ∷ 100 ∷ 58 ∷ 100 ∷ 100 ∷ 58 ∷ 100 ∷ 100 ∷ 46 ∷ 100 ∷ 100 ∷ 100 ∷ 90 ∷ []

-- an octet fits an entry of the form: a digit for d, and any other entry is itself
unfoldable pub fits : ℕ → ℕ → Bool
fits entry c = cond (eqb entry 100) (digit c) (eqb c entry)

-- the octet at a place does not fit the form there
unfoldable pub misfit : List ℕ → ℕ → Bool
misfit s i = not (fits (get_or form i 0) (get_or s i 0))

-- the numbers that the digits spell, most significant digit first
unfoldable pub two_digits : List ℕ → ℕ → ℕ
two_digits s at = 10 * (get_or s at 0 - 48) + (get_or s (at + 1) 0 - 48)

unfoldable pub four_digits : List ℕ → ℕ → ℕ
four_digits s at = 100 * two_digits s at + two_digits s (at + 2)

-- YYYY, MM, DD, hh, mm and ss, each at its place in the form
abbrev pub year : List ℕ → ℕ
year s = four_digits s 0

abbrev pub month : List ℕ → ℕ
month s = two_digits s 5

abbrev pub day : List ℕ → ℕ
day s = two_digits s 8

abbrev pub hour : List ℕ → ℕ
hour s = two_digits s 11

abbrev pub minute : List ℕ → ℕ
minute s = two_digits s 14

abbrev pub second : List ℕ → ℕ
second s = two_digits s 17

-- a leap year of the Gregorian calendar: one that 4 divides, and of the hundreds one that 400 divides ("year 0000 is a leap year")
unfoldable pub leap : ℕ → Bool
leap y = cond (eqb (y % 100) 0) (eqb (y % 400) 0) (eqb (y % 4) 0)

-- "the twelve month lengths", of a year that is no leap year
unfoldable pub month_lengths : List ℕ
month_lengths = 31 ∷ 28 ∷ 31 ∷ 30 ∷ 31 ∷ 30 ∷ 31 ∷ 31 ∷ 30 ∷ 31 ∷ 30 ∷ 31 ∷ []

unfoldable pub common_length : ℕ → ℕ
common_length m = get_or month_lengths (m - 1) 0

-- February of a leap year, which has 29 days
unfoldable pub leap_february : ℕ → ℕ → Bool
leap_february y m = eqb m 2 && leap y

unfoldable pub month_length : ℕ → ℕ → ℕ
month_length y m = cond (leap_february y m) 29 (common_length m)

-- "month 01 to 12, day by the Gregorian calendar"
unfoldable pub in_calendar : ℕ → ℕ → ℕ → Bool
in_calendar y m d = between 1 12 m && between 1 (month_length y m) d

-- "hour to 23, minute and second to 59"
unfoldable pub on_clock : ℕ → ℕ → ℕ → Bool
on_clock h m s = leb h 23 && leb m 59 && leb s 59

-- "24 octets", at no place one that does not fit, a day that there is and a time that there is
unfoldable pub is_date : List ℕ → Bool
is_date s =
    eqb (length s) 24 && (not (any (misfit s) 24) && (in_calendar (year s) (month s) (day s) && on_clock (hour s) (minute s) (second s)))
