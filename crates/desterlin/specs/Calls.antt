-- What the eight calls for C promise: the value returned, and every octet of every buffer that is lent to be written.
-- What is left open is the workspace after an accepted call, which is scratch.
use Rattle.std.specs.Prelude.{ℕ, List, [], ◌∷◌, ◌≡◌, true, false, cond, ℤ, length}
use Rattle.octets.specs.Octets.{filled}
use Rattle.octets.specs.Slices.{nth}
use Rattle.listing.specs.Listing.{table, numbered}
use Rattle.listing.specs.Refusals.{outcome, is_accepted, Outcome, Checked, number_of, table_of, row_of}
use Rattle.columns.specs.Refusals.{column_outcome, fill_answer}
use Rattle.columns.specs.Tiles.{given}
use Rattle.metadata.specs.Refusals.{metadata_outcome}
use Rattle.writer.specs.Writing.{Written, write_answer, number_in, table_in, row_in, octets_in, given_of}
use Rattle.report.specs.Promises.{Report, total_in, written_in}
use Rattle.findings.specs.Findings.{Finding}
use Rattle.findings.specs.Answers.{reported, verdict_of, is_refused, Located, lookup_of}
use Rattle.findings.specs.ColumnAnswers.{column_reported, column_lookup}
use Rattle.findings.specs.MetadataAnswers.{metadata_reported}
use Rattle.findings.specs.Words.{buffer_of, report_words_by, ruling_words, located_words, is_short, status_of, answered}

-- a report's answer: number and place, total, written
abbrev pub summary_words : Report → List ℕ
summary_words r = number_of r ∷ table_of r ∷ row_of r ∷ total_in r ∷ written_in r ∷ []

-- o is what the check has said, and fs are the findings; b, w and a are the findings buffer, the workspace and the answer before the call, b', w' and a' after it
pub record ReportAnswer (o : Outcome) (fs : List Finding) (b w a : List ℕ) (r : ℕ) (b' w' a' : List ℕ) : Type 0 where
  pub status : r ≡ status_of 20 a
  pub findings : b' ≡ cond (is_short 20 a) b (buffer_of fs b)
  pub answer : a' ≡ answered 20 (report_words_by o fs b) a
  pub short : is_short 20 a ≡ true → w' ≡ w
  pub refused : is_accepted o ≡ false → w' ≡ w

-- s is the listing
abbrev pub ReportCall : List ℕ → List ℕ → List ℕ → List ℕ → ℕ → List ℕ → List ℕ → List ℕ → Type 0
ReportCall s b w a r b' w' a' = ReportAnswer (outcome s) (reported s) b w a r b' w' a'

-- m is the metadata listing beside it
abbrev pub MetadataReportCall : List ℕ → List ℕ → List ℕ → List ℕ → List ℕ → ℕ → List ℕ → List ℕ → List ℕ → Type 0
MetadataReportCall s m b w a r b' w' a' = ReportAnswer (metadata_outcome s m) (metadata_reported s m) b w a r b' w' a'

pub record VerdictCall (s : List ℕ) (code : ℕ) (w a : List ℕ) (r : ℕ) (w' a' : List ℕ) : Type 0 where
  pub status : r ≡ status_of 20 a
  pub answer : a' ≡ answered 20 (ruling_words (verdict_of s code)) a
  pub short : is_short 20 a ≡ true → w' ≡ w
  pub refused : is_refused (verdict_of s code) ≡ true → w' ≡ w

-- v is what the lookup has found
pub record LookupAnswer (v : Located) (a : List ℕ) (r : ℕ) (a' : List ℕ) : Type 0 where
  pub status : r ≡ status_of 16 a
  pub answer : a' ≡ answered 16 (located_words v) a

abbrev pub LookupCall : List ℕ → ℕ → ℤ → ℤ → ℤ → List ℕ → ℕ → List ℕ → Type 0
LookupCall s k z c i a r a' = LookupAnswer (lookup_of s k z c i) a r a'

-- ---- write
-- the writer's answer: number and place, octets written
abbrev pub written_words : Written → List ℕ
written_words a = number_in a ∷ table_in a ∷ row_in a ∷ octets_in a ∷ []

-- ts are the seven parts; b and a are the buffer and the answer before the call, b' and a' after it
pub record WriteCall (ts : List (List ℕ)) (b a : List ℕ) (r : ℕ) (b' a' : List ℕ) : Type 0 where
  pub status : r ≡ status_of 16 a
  pub buffer : b' ≡ cond (is_short 16 a) b (filled (given_of (numbered ts) (write_answer (numbered ts) (length b))) b)
  pub answer : a' ≡ answered 16 (written_words (write_answer (numbered ts) (length b))) a

-- ---- tiles in columns: cs are the four columns
abbrev pub ColumnReportCall : List ℕ → List (List ℕ) → List ℕ → List ℕ → List ℕ → ℕ → List ℕ → List ℕ → List ℕ → Type 0
ColumnReportCall s cs b w a r b' w' a' = ReportAnswer (column_outcome s cs) (column_reported s cs) b w a r b' w' a'

abbrev pub ColumnLookupCall : List ℕ → List (List ℕ) → ℕ → ℤ → ℤ → ℤ → List ℕ → ℕ → List ℕ → Type 0
ColumnLookupCall s cs k z c i a r a' = LookupAnswer (column_lookup s cs k z c i) a r a'

-- the fill's answer: number and place
abbrev pub checked_words : Checked → List ℕ
checked_words r = number_of r ∷ table_of r ∷ row_of r ∷ []

-- bs are the columns before the call and cs after it. Nothing is put into a column where the answer is too short or the fill is refused
abbrev pub filled_by : List ℕ → List (List ℕ) → List ℕ → ℕ → List ℕ
filled_by s bs a k = cond (is_short 12 a) (nth bs k) (filled (given (fill_answer s bs) (table s 5) k) (nth bs k))

pub record FillCall (s : List ℕ) (bs : List (List ℕ)) (a : List ℕ) (r : ℕ) (cs : List (List ℕ)) (a' : List ℕ) : Type 0 where
  pub status : r ≡ status_of 12 a
  pub answer : a' ≡ answered 12 (checked_words (fill_answer s bs)) a
  pub firsts : nth cs 0 ≡ filled_by s bs a 0
  pub zooms : nth cs 1 ≡ filled_by s bs a 1
  pub columns : nth cs 2 ≡ filled_by s bs a 2
  pub rows : nth cs 3 ≡ filled_by s bs a 3
