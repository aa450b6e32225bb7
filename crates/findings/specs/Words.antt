-- The words of the answers, as octets in the caller's buffers.
use Rattle.std.specs.Prelude.{ℕ, ◌*◌, ◌/◌, min, List, [], ◌∷◌, ◌++◌, Bool, cond, ltb, length, take, drop, None, Some, Ok, Err}
use Rattle.octets.specs.Octets.{word}
use Rattle.listing.specs.Refusals.{outcome, number_of, table_of, row_of, Outcome, number}
use Rattle.rules.specs.Judgments.{none}
use Rattle.findings.specs.Findings.{Finding}
use Rattle.findings.specs.Answers.{reported, Verdict, Located}
use Rattle.findings.specs.declared.Ruling.TheVariants as ruling

-- words, one after the other, as octets
abbrev pub octets_of : List ℕ → List ℕ
octets_of [] = []
octets_of (w ∷ ws) = word w ++ octets_of ws

-- "a finding is three u32 words: code, row, partner"
abbrev pub finding_words : ℕ
finding_words = 3

abbrev pub words_of : Finding → List ℕ
words_of f = f.code ∷ f.row ∷ f.partner ∷ []

abbrev pub finding_octets : List Finding → List ℕ
finding_octets [] = []
finding_octets (f ∷ fs) = octets_of (words_of f) ++ finding_octets fs

-- "the number written: the smaller of the total and a third of the buffer's words, rounded down"
abbrev pub room : List ℕ → ℕ
room b = length b / 4 / finding_words

unfoldable pub written_of : List Finding → List ℕ → ℕ
written_of fs b = min (length fs) (room b)

-- the buffer afterwards: the findings written; "words past those keep their values"
unfoldable pub buffer_of : List Finding → List ℕ → List ℕ
buffer_of fs b = finding_octets (take (written_of fs b) fs) ++ drop (4 * finding_words * written_of fs b) b

-- ---- the words of the three answers
-- report: number and place, total, written
abbrev pub report_words_by : Outcome → List Finding → List ℕ → List ℕ
report_words_by o fs b = number_of o ∷ table_of o ∷ row_of o ∷ length fs ∷ written_of fs b ∷ []

unfoldable pub report_words : List ℕ → List ℕ → List ℕ
report_words s b = report_words_by (outcome s) (reported s) b

-- verdict: 0 pass, 1 fail, 2 not testable, 3 refused; its row, 4294967295 "unless it is a fail with a row"; number and place
abbrev pub ruling_words : Verdict → List ℕ
ruling_words (Ok ruling.Pass) = 0 ∷ none ∷ 0 ∷ 0 ∷ 0 ∷ []
ruling_words (Ok (ruling.Fail i)) = 1 ∷ i ∷ 0 ∷ 0 ∷ 0 ∷ []
ruling_words (Ok ruling.NotTestable) = 2 ∷ none ∷ 0 ∷ 0 ∷ 0 ∷ []
ruling_words (Err e) = 3 ∷ none ∷ number e.why ∷ e.table ∷ e.row ∷ []

-- lookup: the tile row or 4294967295; number and place
abbrev pub located_words : Located → List ℕ
located_words (Ok (Some i)) = i ∷ 0 ∷ 0 ∷ 0 ∷ []
located_words (Ok None) = none ∷ 0 ∷ 0 ∷ 0 ∷ []
located_words (Err e) = none ∷ number e.why ∷ e.table ∷ e.row ∷ []

-- ---- an answer buffer: "where it is too short, nothing is written and 0 is returned before any refusal, otherwise 1"
abbrev pub is_short : ℕ → List ℕ → Bool
is_short size a = ltb (length a) size

abbrev pub status_of : ℕ → List ℕ → ℕ
status_of size a = cond (is_short size a) 0 1

abbrev pub answered : ℕ → List ℕ → List ℕ → List ℕ
answered size words a = cond (is_short size a) a (octets_of words ++ drop size a)
