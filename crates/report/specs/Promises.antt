-- What report and verdict promise. What lookup promises is one equation, with `lookup_of`.
use Rattle.std.specs.Prelude.{ℕ, List, ◌≡◌, true, false, length, Option, None, Some, Result, Ok, Err}
use Rattle.listing.specs.Refusals.{Outcome, outcome, is_accepted}
use Rattle.listing.specs.declared.Refusal.{Refusal}
use Rattle.columns.specs.Refusals.{column_outcome}
use Rattle.metadata.specs.Refusals.{metadata_outcome}
use Rattle.findings.specs.Findings.{Finding}
use Rattle.findings.specs.Answers.{reported, Verdict, verdict_of, is_refused}
use Rattle.findings.specs.ColumnAnswers.{column_reported}
use Rattle.findings.specs.MetadataAnswers.{metadata_reported}
use Rattle.findings.specs.Words.{written_of, buffer_of}
use Rattle.report.specs.declared.Summary.{Summary}

-- what was counted, or why nothing was
abbrev pub Report : Type 0
Report = Result Summary Refusal

-- the refusal, where there is one; how many findings there are, and how many were written: none of a refusal
abbrev pub refusal_in : {A : Type 0} → Result A Refusal → Option Refusal
refusal_in (Ok x) = None
refusal_in (Err e) = Some e

abbrev pub total_in : Report → ℕ
total_in (Ok a) = a.total
total_in (Err e) = 0

abbrev pub written_in : Report → ℕ
written_in (Ok a) = a.written
written_in (Err e) = 0

-- the findings fs are counted, and those that fit are in the buffer, which was b and is b'
pub record Reports (fs : List Finding) (b : List ℕ) (a : Summary) (b' : List ℕ) : Type 0 where
  pub total : a.total ≡ length fs
  pub written : a.written ≡ written_of fs b
  pub buffer : b' ≡ buffer_of fs b

-- o is what the check of a listing has said, and fs are the findings to report; b is the findings buffer before and b' after, w and w' the workspace
pub record ReportBy (o : Outcome) (fs : List Finding) (b w : List ℕ) (r : Report) (b' w' : List ℕ) : Type 0 where
  pub refusal : refusal_in r ≡ refusal_in o
  pub total : total_in r ≡ length fs
  pub written : written_in r ≡ written_of fs b
  pub buffer : b' ≡ buffer_of fs b
  pub kept : is_accepted o ≡ false → w' ≡ w

-- of the listing s, of one with its tiles in the columns cs, and of the metadata of its sibling m.
-- A refused report has total 0, written 0 and leaves the buffer as it was: `reported`, `column_reported` and `metadata_reported` of it are empty
abbrev pub ReportOf : List ℕ → List ℕ → List ℕ → Report → List ℕ → List ℕ → Type 0
ReportOf s b w r b' w' = ReportBy (outcome s) (reported s) b w r b' w'

abbrev pub ColumnReportOf : List ℕ → List (List ℕ) → List ℕ → List ℕ → Report → List ℕ → List ℕ → Type 0
ColumnReportOf s cs b w r b' w' = ReportBy (column_outcome s cs) (column_reported s cs) b w r b' w'

abbrev pub MetadataReportOf : List ℕ → List ℕ → List ℕ → List ℕ → Report → List ℕ → List ℕ → Type 0
MetadataReportOf s m b w r b' w' = ReportBy (metadata_outcome s m) (metadata_reported s m) b w r b' w'

-- a refused verdict leaves the workspace as it was
pub record VerdictOf (s : List ℕ) (code : ℕ) (w : List ℕ) (r : Verdict) (w' : List ℕ) : Type 0 where
  pub ruling : r ≡ verdict_of s code
  pub kept : is_refused (verdict_of s code) ≡ true → w' ≡ w
