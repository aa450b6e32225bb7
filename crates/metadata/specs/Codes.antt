-- The eight codes with their tables, and the rule of each.
use Rattle.rules.specs.Judgments.{Judgment}
use Rattle.std.specs.Prelude.{ℕ, List, [], ◌∷◌, cond, eqb, get_or, None}
use Rattle.metadata.specs.Rows.{Notebook}
use Rattle.metadata.specs.Rules.{of945, of965, of975, of985, of995, of1005, of1015, of1025}

abbrev pub codes : List ℕ
codes = 945 ∷ 965 ∷ 975 ∷ 985 ∷ 995 ∷ 1005 ∷ 1015 ∷ 1025 ∷ []

abbrev pub tables : List ℕ
tables = 11 ∷ 12 ∷ 12 ∷ 12 ∷ 12 ∷ 12 ∷ 12 ∷ 12 ∷ []

abbrev pub code_count : ℕ
code_count = 8

unfoldable pub code_at : ℕ → ℕ
code_at k = get_or codes k 0

unfoldable pub table_at : ℕ → ℕ
table_at k = get_or tables k 0

-- by the number of the code; numbers that are no code judge no row
unfoldable pub judged : Notebook → ℕ → ℕ → Judgment
judged p code i =
    cond (eqb code 945) (of945 (p.notes.row i))
    (cond (eqb code 965) (of965 (p.links.row i))
    (cond (eqb code 975) (of975 p.contents (p.links.row i))
    (cond (eqb code 985) (of985 (p.links.row i))
    (cond (eqb code 995) (of995 (p.links.row i))
    (cond (eqb code 1005) (of1005 (p.links.row i))
    (cond (eqb code 1015) (of1015 p.notes (p.links.row i))
    (cond (eqb code 1025) (of1025 p.notes (p.links.row i))
    None)))))))
