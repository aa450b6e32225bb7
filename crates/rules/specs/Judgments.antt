-- What a rule says of a row.
use Rattle.std.specs.Prelude.{ℕ, Bool, cond, ltb, Option, Some, None}
use Rattle.octets.specs.Search.{first, any}
use Rattle.pack.specs.Rows.{Rows}

-- what a rule says of a row: nothing, or a finding with its partner or none
abbrev pub Judgment : Type 0
Judgment = Option ℕ

-- "None" is 4294967295
abbrev pub none : ℕ
none = 4294967295

-- a finding with no partner, where the fault is there
abbrev pub fault_if : Bool → Judgment
fault_if fault = cond fault (Some none) None

-- a finding with the partner r, where r is one of the first n rows
unfoldable pub partner : ℕ → ℕ → Judgment
partner r n = cond (ltb r n) (Some r) None

-- "the partner is always the lowest row that fits": the lowest of the first n rows that does
abbrev pub lowest : {A : Type 0} → (A → Bool) → Rows A → ℕ → Judgment
lowest fits rs n = partner (first (λ j. fits (rs.row j)) n) n

-- the first row that fits, the count where there is none
abbrev pub first_row : {A : Type 0} → (A → Bool) → Rows A → ℕ
first_row fits rs = first (λ j. fits (rs.row j)) rs.count

-- some row fits
abbrev pub some : {A : Type 0} → (A → Bool) → Rows A → Bool
some fits rs = any (λ j. fits (rs.row j)) rs.count

-- a finding with no partner, where no row fits
abbrev pub unless_some : {A : Type 0} → (A → Bool) → Rows A → Judgment
unless_some fits rs = cond (some fits rs) None (Some none)
