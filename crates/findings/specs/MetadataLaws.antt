-- "Demand 3 holds for this report on its own": the report on metadata holds all findings of its eight codes, each once, by code then row, and no other; and each number is its word.
use Rattle.std.specs.Prelude.{ℕ, ◌<◌, ◌≤◌, ◌≡◌, Bool, cond, ◌⊎◌, ◌↔◌, ℤ, length, None, Some, Ok, Err}
use Rattle.std.proofs.Math.Path.{refl, subst}
use Rattle.std.proofs.Common.{sym, inl, inr, arith}
use Rattle.std.proofs.Math.Bool.{true, false}
use Rattle.std.proofs.lemmas.Bool.{false≢true}
use Rattle.std.proofs.Math.Logic.{⊎_elim}
use mathlib.Core.List.{List, [], ◌∷◌}
use Rattle.listing.specs.Listing.{layout}
use Rattle.listing.specs.Refusals.{reasons_in, decide, outcome, outcome_with, is_accepted, Outcome}
use Rattle.listing.specs.ReasonLaws.{Free, Given, given_or_none, decide_stop, decide-none}
use Rattle.listing.proofs.FurtherLaws.{further_refused, further_rest}
use Rattle.listing.specs.declared.Format.TheVariants.{Metadata}
use Rattle.rules.specs.Judgments.{none, some, Judgment}
use Rattle.rules.specs.CodeLaws.{Sound}
use Rattle.octets.specs.Numbers.{eq_z}
use Rattle.octets.specs.Texts.{Nullable, There, Null}
use Rattle.pack.specs.Rows.{Rows, Content}
use Rattle.rules.specs.Contents.{content_named}
use Rattle.metadata.specs.Rows.{Notebook, Note, rows_of}
use Rattle.metadata.specs.Rules.{of945, of965, of975, of985, of995, of1005, of1015, of1025, has_id, in_contents, wrong_parent}
use Rattle.metadata.specs.Tables.{notebook_of}
use Rattle.metadata.specs.Codes.{codes, tables, judged}
use Rattle.metadata.specs.Refusals.{metadata_outcome}
use Rattle.metadata.specs.MetadataLaws.{rows-most}
use Rattle.findings.specs.Findings.{Finding, Every, Ordered}
use Rattle.findings.specs.Schemes.{table_by, findings_of}
use Rattle.findings.specs.Answers.{findings_by}
use Rattle.findings.specs.MetadataAnswers.{metadata_scheme, metadata_reported}
use Rattle.findings.specs.Demands.{Stands, Once, DueBy, Fits, AllFit}
use Rattle.findings.specs.SchemeLaws.{outcome-exactly, outcome-ordered, outcome-once, outcome-length, outcome_fits}
use Rattle.findings.specs.Words.{words_of, written_of, report_words_by}
use Rattle.findings.specs.RefusedLaws.{written-fit, place_of, place-fits, given-fits}

-- the codes ascend, and each belongs to one of the two tables
pub metadata_sound : Sound codes tables
metadata_sound = record { ascend = tt; agree = tt; belong = tt; fit = tt }

-- a finding of a tile listing with its sibling: both are accepted, and the rule asks for it
abbrev pub AskedOf : List ℕ → List ℕ → Finding → Type 0
AskedOf s m f = (is_accepted (metadata_outcome s m) ≡ true) × DueBy (metadata_scheme (notebook_of s m)) f

module _ (s m : List ℕ) where
  rows_few : is_accepted (metadata_outcome s m) ≡ true → (t : ℕ) → (metadata_scheme (notebook_of s m)).rows t ≤ none
  rows_few a t = omega (arith, rows-most s m a t)

  -- "all findings .. and no other"
  pub metadata_exactly : (f : Finding) → Stands f (metadata_reported s m) ↔ AskedOf s m f
  unfolding metadata_reported
  metadata_exactly = outcome-exactly (metadata_outcome s m) (metadata_scheme (notebook_of s m)) metadata_sound

  -- "order as before"
  pub metadata_ordered : Ordered (metadata_reported s m)
  unfolding metadata_reported
  metadata_ordered = outcome-ordered (metadata_outcome s m) (metadata_scheme (notebook_of s m)) metadata_sound rows_few

  -- "each once"
  pub metadata_once : Once (metadata_reported s m)
  unfolding metadata_reported
  metadata_once = outcome-once (metadata_outcome s m) (metadata_scheme (notebook_of s m)) metadata_sound rows_few

  -- of refused ones nothing is reported
  pub metadata_none : is_accepted (metadata_outcome s m) ≡ false → metadata_reported s m ≡ []
  unfolding metadata_reported
  metadata_none = by (metadata_outcome s m)
    where
      by : (o : Outcome) → is_accepted o ≡ false → findings_by o (findings_of (metadata_scheme (notebook_of s m))) ≡ []
      by (Ok l) e = absurd (false≢true (sym e))
      by (Err e₀) e = refl

  pub metadata_length : length (metadata_reported s m) ≤ 32776
  unfolding metadata_reported
  metadata_length = outcome-length (metadata_outcome s m) (metadata_scheme (notebook_of s m)) 4096 (λ a t. rows-most s m a t)

-- ---- "partner none"
unfoldable Alone : Judgment → Type 0
Alone None = Unit
Alone (Some j) = j ≡ none

clean : Alone None
unfolding Alone
clean = tt

alone : Alone (Some none)
unfolding Alone
alone = refl

either : (b : Bool) (x y : Judgment) → Alone x → Alone y → Alone (cond b x y)
either true x y a c = a
either false x y a c = c

contents-alone : (cs : Rows Content) (t : Nullable (List ℕ)) → Alone (in_contents cs t)
contents-alone cs (There x) = either (some (content_named x) cs) None (Some none) clean alone
contents-alone cs Null = alone

parent_alone : (ns : Rows Note) (id : ℤ) (p : Nullable ℤ) → Alone (wrong_parent ns id p)
parent_alone ns id (There p) = either (eq_z p id) (Some none) (cond (some (has_id p) ns) None (Some none)) alone (either (some (has_id p) ns) None (Some none) clean alone)
parent_alone ns id Null = clean

judged-alone : (p : Notebook) (c i : ℕ) → Alone (judged p c i)
unfolding judged of945 of965 of975 of985 of995 of1005 of1015 of1025
judged-alone p c i = search (clean, alone, either, contents-alone, parent_alone) depth 30 fits 10000

module _ (s m : List ℕ) where
  pub due_alone : (f : Finding) → DueBy (metadata_scheme (notebook_of s m)) f → f.partner ≡ none
  unfolding Alone
  due_alone f d =
      ⊎_elim
      (λ (q : (f.row < rows_of (notebook_of s m) (table_by (metadata_scheme (notebook_of s m)) f.code)) × (judged (notebook_of s m) f.code f.row ≡ Some f.partner)).
      subst Alone q.1 (judged-alone (notebook_of s m) f.code f.row))
      (λ (q : (f.row ≡ none) × (None ≡ Some f.partner)). subst Alone q.1 clean)
      d.says

  pub metadata_partner : (f : Finding) → Stands f (metadata_reported s m) → f.partner ≡ none
  metadata_partner f h = due_alone f ((metadata_exactly s m f).0 h).1

  -- ---- each number is its word
  partner-fits : is_accepted (metadata_outcome s m) ≡ true → (f : Finding) → DueBy (metadata_scheme (notebook_of s m)) f → Fits f.partner
  partner-fits a f d = let e : f.partner ≡ none = due_alone f d in omega (arith, e)

  pub metadata_findings_fit : Every (λ f. AllFit (words_of f)) (metadata_reported s m)
  unfolding metadata_reported
  metadata_findings_fit = outcome_fits (metadata_outcome s m) (metadata_scheme (notebook_of s m)) metadata_sound (rows_few s m) partner-fits

  -- number, table and row
  rest-fits : (o : Outcome) → is_accepted o ≡ true → AllFit (place_of o) → ((k : ℕ) × Given (reasons_in Metadata m) k) ⊎ Free (reasons_in Metadata m) → AllFit (place_of (decide (reasons_in Metadata m) o))
  rest-fits o a z (inl g) = rw (decide_stop Err (reasons_in Metadata m) o g.0 g.1.passed g.1.there) (given-fits Metadata m g.0 o g.1)
  rest-fits o a z (inr f) = rw (decide-none Err (reasons_in Metadata m) o f) z

  pub metadata_place_fits : AllFit (place_of (metadata_outcome s m))
  unfolding metadata_outcome
  metadata_place_fits = by (is_accepted (outcome s)) refl
    where
      by : (b : Bool) → is_accepted (outcome s) ≡ b → AllFit (place_of (outcome_with s (reasons_in Metadata m)))
      by true e = rw (further_rest s (reasons_in Metadata m) e) (rest-fits (Ok (layout s)) refl (written-fit (0 ∷ 0 ∷ 0 ∷ []) refl) (given_or_none (reasons_in Metadata m)))
      by false e = rw (further_refused s (reasons_in Metadata m) e) (place-fits s)

  pub metadata_fits : (b : List ℕ) → AllFit (report_words_by (metadata_outcome s m) (metadata_reported s m) b)
  unfolding written_of
  metadata_fits b =
      let q = metadata_place_fits in
      (q.0, (q.1.0, (q.1.1.0, (omega (arith, metadata_length s m), (omega (arith, metadata_length s m), tt)))))
