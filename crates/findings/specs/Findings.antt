-- The findings of a pack: "by code, then row, none last".
use Rattle.std.specs.Prelude.{ℕ, ◌<◌, ◌≡◌, ◌⊎◌, List, [], ◌∷◌, ◌++◌, cond, eqb, None, Some}
use Rattle.octets.specs.Gather.{gather}
use Rattle.pack.specs.Rows.{Pack, rows_in}
use Rattle.rules.specs.Judgments.{none, Judgment}
use Rattle.rules.specs.Codes.{code_count, code_at, table_at, judged, judged_none}

-- "a finding is three u32 words: code, row, partner"
pub record Finding : Type 0 where
  pub code : ℕ
  pub row : ℕ
  pub partner : ℕ

-- what a judgment gives: no finding, or one
abbrev pub found : ℕ → ℕ → Judgment → List Finding
found c i None = []
found c i (Some j) = record { code = c; row = i; partner = j } ∷ []

-- the finding that a row has by a code, if any
unfoldable pub at_row : Pack → ℕ → ℕ → List Finding
at_row p c i = found c i (judged p c i)

-- the finding that a code has without a row, if any
unfoldable pub at_none : Pack → ℕ → List Finding
at_none p c = found c none (judged_none p c)

-- the findings of a code: its table's rows in order, then the one without a row
unfoldable pub of_code : Pack → ℕ → ℕ → List Finding
of_code p c t = gather (rows_in p t) (at_row p c) ++ at_none p c

-- those of the code at a place of the table of codes, and all
unfoldable pub of_place : Pack → ℕ → List Finding
of_place p k = of_code p (code_at k) (table_at k)

unfoldable pub findings : Pack → List Finding
findings p = gather code_count (of_place p)

-- those of a list that have a code
abbrev pub only : ℕ → List Finding → List Finding
only c [] = []
only c (f ∷ fs) = cond (eqb f.code c) (f ∷ only c fs) (only c fs)

-- what holds of every finding of a list
abbrev pub Every : (Finding → Type 0) → List Finding → Type 0
Every P [] = Unit
Every P (f ∷ fs) = P f × Every P fs

-- "the order of findings is by code, then row, none last"
abbrev pub Before : Finding → Finding → Type 0
Before f g = (f.code < g.code) ⊎ ((f.code ≡ g.code) × (f.row < g.row))

-- each before all that follow it, so none stands twice
abbrev pub Ordered : List Finding → Type 0
Ordered [] = Unit
Ordered (f ∷ fs) = Every (Before f) fs × Ordered fs
