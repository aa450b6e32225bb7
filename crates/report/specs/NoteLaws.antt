-- The walk over the codes of the metadata, in the shape in which goals ask for it.
use Rattle.std.specs.Prelude.{ℕ, ◌+◌, ◌^◌, ◌<◌, ◌≤◌, ◌≡◌, refl, List, length}
use Rattle.std.proofs.Math.Path.{sym, subst}
use Rattle.std.proofs.Common.{ap, ◌∙◌, append-nil, le_antisymm, arith}
use Rattle.octets.specs.Gather.{gather}
use Rattle.rules.specs.Judgments.{none}
use Rattle.metadata.specs.Rows.{Notebook, rows_of}
use Rattle.metadata.specs.Codes.{code_count, code_at, table_at}
use Rattle.findings.specs.Findings.{Finding}
use Rattle.findings.specs.Schemes.{code_in, table_in, at_row_by, at_none_by, of_code_by, of_place_by, findings_of}
use Rattle.findings.specs.SchemeLaws.{scheme_places_length}
use Rattle.findings.specs.MetadataAnswers.{metadata_scheme}
use Rattle.report.specs.Buffers.{Added, no_tally}
use Rattle.report.specs.BufferLaws.{added_none, added_more}
use Rattle.report.specs.WalkLaws.{Few}
use Rattle.report.specs.declared.Tally.{Tally}

module _ (p : Notebook) where
  -- a code has the findings of its rows, and none without a row
  code-rows : (c t : ℕ) → gather (rows_of p t) (at_row_by (metadata_scheme p) c) ≡ of_code_by (metadata_scheme p) c t
  unfolding of_code_by at_none_by
  code-rows c t = sym (append-nil (gather (rows_of p t) (at_row_by (metadata_scheme p) c)))

  pub notes-room : (t n k : ℕ) → n ≡ rows_of p t → Few (metadata_scheme p) → k < 2 ^ 63 → k + n < 2 ^ 64
  notes-room t n k e h l = omega (arith, e, h t)

  pub notes-code : (c t n : ℕ) (b : List ℕ) (u : Tally) (b' : List ℕ) (u' : Tally) → n ≡ rows_of p t → Added (gather n (at_row_by (metadata_scheme p) c)) b u b' u' → Added (of_code_by (metadata_scheme p) c t) b u b' u'
  notes-code c t n b u b' u' e a = subst (λ (fs : List Finding). Added fs b u b' u') (ap (λ (k : ℕ). gather k (at_row_by (metadata_scheme p) c)) e ∙ code-rows c t) a

  -- the findings of the first k codes have been added
  pub record Walked (b : List ℕ) (k : ℕ) (b' : List ℕ) (u : Tally) : Type 0 where
    pub within : k ≤ 8
    pub added : Added (gather k (of_place_by (metadata_scheme p))) b no_tally b' u
    pub kept : length b' ≡ length b

  pub places_none : (b : List ℕ) → Walked b 0 b no_tally
  places_none b = record { within = omega arith; added = added_none b no_tally; kept = refl }

  pub places_room : (b : List ℕ) (k : ℕ) (b' : List ℕ) (u : Tally) → Few (metadata_scheme p) → Walked b k b' u → u.total < 2 ^ 63
  places_room b k b' u h w = omega (arith, w.added.count, w.within, scheme_places_length (metadata_scheme p) none h k)

  pub places_more : (b : List ℕ) (k : ℕ) (b₁ : List ℕ) (u₁ : Tally) (c t : ℕ) (b₂ : List ℕ) (u₂ : Tally) → Walked b k b₁ u₁ → k < code_count → c ≡ code_at k → t ≡ table_at k
      → Added (of_code_by (metadata_scheme p) c t) b₁ u₁ b₂ u₂ → length b₂ ≡ length b₁ → Walked b (k + 1) b₂ u₂
  unfolding of_place_by code_in table_in code_at table_at
  places_more b k b₁ u₁ c t b₂ u₂ w l e f a d = record {
    within = omega arith;
    added = added_more k (of_place_by (metadata_scheme p)) w.added (rw (e, f) at a);
    kept = d ∙ w.kept;
  }

  pub places_end : (b : List ℕ) (k : ℕ) (b' : List ℕ) (u : Tally) → Walked b k b' u → code_count ≤ k → Added (findings_of (metadata_scheme p)) b no_tally b' u
  unfolding findings_of
  places_end b k b' u w l = subst (λ (n : ℕ). Added (gather n (of_place_by (metadata_scheme p))) b no_tally b' u) (le_antisymm w.within l) w.added
