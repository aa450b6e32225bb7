-- A findings buffer into which findings are put one by one, and what is kept of them on the way.
use Rattle.std.specs.Prelude.{ℕ, suc, ◌+◌, ◌*◌, List, [], ◌∷◌, ◌≡◌, cond, eqb, ltb, length}
use Rattle.std.proofs.lemmas.List.Edits.{sets}
use Rattle.rules.specs.Judgments.{none}
use Rattle.findings.specs.Findings.{Finding}
use Rattle.findings.specs.Words.{octets_of, finding_words, words_of, room}
use Rattle.report.specs.declared.Tally.{Tally}

abbrev pub finding_of : ℕ → ℕ → ℕ → Finding
finding_of code row partner = record { code = code; row = row; partner = partner }

-- the buffer after finding number n, if there is room for it
unfoldable pub put_one : List ℕ → ℕ → Finding → List ℕ
put_one b n f = cond (ltb n (room b)) (sets b (4 * finding_words * n) (octets_of (words_of f))) b

-- the buffer after a run of findings, the first of which has number n
abbrev pub put : List ℕ → ℕ → List Finding → List ℕ
put b n [] = b
put b n (f ∷ fs) = put (put_one b n f) (suc n) fs

-- before the first finding
abbrev pub no_tally : Tally
no_tally = record { total = 0; row = none }

-- the row of the first finding
abbrev pub head_row : List Finding → ℕ → ℕ
head_row [] other = other
head_row (f ∷ fs) other = f.row

-- a step that adds the findings fs: it counts them, keeps the row of the first of all, and puts them into the buffer as far as there is room
pub record Added (fs : List Finding) (b : List ℕ) (t : Tally) (b' : List ℕ) (t' : Tally) : Type 0 where
  pub count : t'.total ≡ t.total + length fs
  pub row : t'.row ≡ cond (eqb t.total 0) (head_row fs t.row) t.row
  pub buffer : b' ≡ put b t.total fs
