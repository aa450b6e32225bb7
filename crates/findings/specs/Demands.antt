-- What the three demands speak of: a finding that stands in a list, one that a rule asks for, the lowest row of a code, and a number that fits its word.
use Rattle.std.specs.Prelude.{ℕ, ◌^◌, ◌<◌, ◌≤◌, ◌≡◌, ◌⊎◌, List, [], ◌∷◌, true, Some}
use Rattle.listing.specs.Refusals.{outcome, is_accepted}
use Rattle.pack.specs.Rows.{Pack, rows_in}
use Rattle.pack.specs.Tables.{pack_of}
use Rattle.rules.specs.Judgments.{none}
use Rattle.rules.specs.Codes.{table_of}
use Rattle.findings.specs.Findings.{Finding}
use Rattle.findings.specs.Schemes.{Scheme, table_by, tile_scheme}
use Rattle.findings.specs.Answers.{always_testable}

-- ---- a finding stands in a list; each finding of a list stands in it once
abbrev pub Stands : Finding → List Finding → Type 0
Stands f [] = ⊥
Stands f (g ∷ fs) = (f ≡ g) ⊎ Stands f fs

abbrev pub Once : List Finding → Type 0
Once [] = Unit
Once (f ∷ fs) = (Stands f fs → ⊥) × Once fs

-- ---- a code is one of a scheme's; one of the 36
abbrev pub ListedBy : Scheme → ℕ → Type 0
ListedBy r c = table_by r c ≡ 0 → ⊥

abbrev pub Listed : ℕ → Type 0
Listed c = table_of c ≡ 0 → ⊥

-- a finding that the rule of its code asks for: of a row of the code's table, or of none
pub record DueBy (r : Scheme) (f : Finding) : Type 0 where
  pub listed : ListedBy r f.code
  pub says : ((f.row < r.rows (table_by r f.code)) × (r.says f.code f.row ≡ Some f.partner)) ⊎ ((f.row ≡ none) × (r.says_none f.code ≡ Some f.partner))

-- one that the 36 ask for of a pack
abbrev pub Due : Pack → Finding → Type 0
Due p f = DueBy (tile_scheme p) f

-- a finding of an octet string: the string is accepted, and the rule asks for it
abbrev pub Asked : List ℕ → Finding → Type 0
Asked s f = (is_accepted (outcome s) ≡ true) × Due (pack_of s) f

-- a partner: none, or a row of some table of the pack
abbrev pub Partner : Pack → ℕ → Type 0
Partner p j = (j ≡ none) ⊎ ((t : ℕ) × (j < rows_in p t))

-- ---- of the findings that are meant, i is "the lowest row (none if there is no other)" of those with a code; and none has the code
pub record LowestRow (meant : Finding → Type 0) (c i : ℕ) : Type 0 where
  pub finding : Finding
  pub holds : meant finding
  pub code : finding.code ≡ c
  pub row : finding.row ≡ i
  pub lowest : (g : Finding) → meant g → g.code ≡ c → i ≤ g.row

abbrev pub NoFinding : (Finding → Type 0) → ℕ → Type 0
NoFinding meant c = (f : Finding) → meant f → f.code ≡ c → ⊥

-- a code whose table has n rows can be tested: there is a row, or it is one of the four that need none
abbrev pub Testable : ℕ → ℕ → Type 0
Testable c n = n ≡ 0 → always_testable c ≡ true

-- ---- numbers that a u32 holds
abbrev pub Fits : ℕ → Type 0
Fits n = n < 2 ^ 32

abbrev pub AllFit : List ℕ → Type 0
AllFit [] = Unit
AllFit (n ∷ ns) = Fits n × AllFit ns
