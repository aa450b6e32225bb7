-- What an index finds is what the rule of 541 says; and a walk over rows, in the shape in which goals ask for it.
use Rattle.std.specs.Prelude.{ℕ, zero, suc, ◌+◌, ◌^◌, ◌<◌, ◌≤◌, ◌≡◌, refl, List, [], Bool, true, length, None, Some}
use Rattle.std.proofs.Common.{zero-le, sym, ap, ◌∙◌, subst, le_antisymm, add-one-le, arith, length-append}
use Rattle.octets.specs.Gather.{gather}
use Rattle.octets.specs.GatherLaws.{gather-one, gather-agree}
use Rattle.octets.specs.Search.{first}
use Rattle.pack.specs.Rows.{Rows, Tile, Pack, rows_in}
use Rattle.index.specs.TileKeys.{address_at, is_at}
use Rattle.rules.specs.Judgments.{none, partner, Judgment}
use Rattle.rules.specs.Tiles.{of541}
use Rattle.rules.specs.Codes.{judged}
use Rattle.findings.specs.Findings.{Finding, found, at_row}
use Rattle.findings.specs.Schemes.{Scheme, at_row_by}
use Rattle.survey.specs.declared.Survey.{Survey}
use Rattle.survey.specs.Surveys.{Surveyed, quiet_by}
use Rattle.survey.specs.SurveyLaws.{quiet_row}
use Rattle.report.specs.Buffers.{Added}
use Rattle.report.specs.BufferLaws.{added_none, added_more}
use Rattle.report.specs.declared.Tally.{Tally}
use Rattle.report.specs.Walks.{at541}

-- ---- 541
pub is_541 : (p : Pack) (i : ℕ) → at541 p.tiles i ≡ at_row p 541 i
unfolding at541 at_row judged
is_541 p i = refl

-- ---- a walk that has come to row i of n: the findings of the rows before it have been added
pub record Walking (f : ℕ → List Finding) (b : List ℕ) (t : Tally) (n i : ℕ) (b' : List ℕ) (t' : Tally) : Type 0 where
  pub within : i ≤ n
  pub added : Added (gather i f) b t b' t'
  pub few : length (gather i f) ≤ i
  pub kept : length b' ≡ length b

pub found-one : (c i : ℕ) (v : Judgment) → length (found c i v) ≤ 1
found-one c i None = omega arith
found-one c i (Some j) = omega arith

module _ (f : ℕ → List Finding) (b : List ℕ) (t : Tally) (n : ℕ) where
  pub walk_start : Walking f b t n 0 b t
  walk_start = record { within = zero-le; added = added_none b t; few = omega arith; kept = refl }

  -- there is room for one more
  pub walk-room : (i : ℕ) (b' : List ℕ) (t' : Tally) → Walking f b t n i b' t' → i < n → t.total + n < 2 ^ 64 → t'.total + 1 < 2 ^ 64
  walk-room i b' t' w l h = omega (arith, w.added.count, w.few)

  pub walk_end : (m i : ℕ) (b' : List ℕ) (t' : Tally) → Walking f b t n i b' t' → n ≤ i → n ≡ m → Added (gather m f) b t b' t'
  walk_end m i b' t' w l e = subst (λ (k : ℕ). Added (gather k f) b t b' t') (le_antisymm w.within l ∙ e) w.added

  pub walk_more : (c i : ℕ) (b₁ b₂ : List ℕ) (t₁ t₂ : Tally) (v : Judgment) → Walking f b t n i b₁ t₁ → i < n → Added (found c i v) b₁ t₁ b₂ t₂ → length b₂ ≡ length b₁
      → found c i v ≡ f i → Walking f b t n (i + 1) b₂ t₂
  walk_more c i b₁ b₂ t₁ t₂ v w l a k e = record {
    within = add-one-le l;
    added = added_more i f w.added (subst (λ (fs : List Finding). Added fs b₁ t₁ b₂ t₂) e a);
    few = rw gather-one (simp length-append (omega (arith, w.few, ap length e, found-one c i v)));
    kept = k ∙ w.kept;
  }

-- one row more, by what its rule says
pub more-row : (p : Pack) (code : ℕ) (b : List ℕ) (t : Tally) (n i : ℕ) (b₁ b₂ : List ℕ) (t₁ t₂ : Tally) (v : Judgment)
    → Walking (at_row p code) b t n i b₁ t₁ → i < n → Added (found code i v) b₁ t₁ b₂ t₂ → length b₂ ≡ length b₁ → v ≡ judged p code i
    → Walking (at_row p code) b t n (i + 1) b₂ t₂
unfolding at_row
more-row p code b t n i b₁ b₂ t₁ t₂ v w l a d e = walk_more (at_row p code) b t n code i b₁ b₂ t₁ t₂ v w l a d (ap (found code i) e)

-- the same of any scheme
pub more_row_by : (r : Scheme) (code : ℕ) (b : List ℕ) (t : Tally) (n i : ℕ) (b₁ b₂ : List ℕ) (t₁ t₂ : Tally) (v : Judgment)
    → Walking (at_row_by r code) b t n i b₁ t₁ → i < n → Added (found code i v) b₁ t₁ b₂ t₂ → length b₂ ≡ length b₁ → v ≡ r.says code i
    → Walking (at_row_by r code) b t n (i + 1) b₂ t₂
unfolding at_row_by
more_row_by r code b t n i b₁ b₂ t₁ t₂ v w l a d e = walk_more (at_row_by r code) b t n code i b₁ b₂ t₁ t₂ v w l a d (ap (found code i) e)

-- no row of a scheme has the number that means none
abbrev pub Few : Scheme → Type 0
Few r = (t : ℕ) → r.rows t ≤ none

-- by what the index found
pub more_541 : (b : List ℕ) (t : Tally) (n i : ℕ) (b₁ b₂ : List ℕ) (t₁ t₂ : Tally) (v : Judgment) (k : ℕ) (ts : Rows Tile)
    → Walking (at541 ts) b t n i b₁ t₁ → i < n → Added (found 541 i v) b₁ t₁ b₂ t₂ → length b₂ ≡ length b₁ → v ≡ partner k i
    → k ≡ first (is_at ts (address_at ts i)) i → Walking (at541 ts) b t n (i + 1) b₂ t₂
unfolding at541 of541
more_541 b t n i b₁ b₂ t₁ t₂ v k ts w l a d e f =
    walk_more (at541 ts) b t n 541 i b₁ b₂ t₁ t₂ v w l a d (ap (found 541 i) (e ∙ ap (λ (r : ℕ). partner r i) f))

-- the walk of 541 over the tiles is that of the rule
pub as_541 : (p : Pack) (n code : ℕ) (b b' : List ℕ) (t t' : Tally) → code ≡ 541 → Added (gather n (at541 p.tiles)) b t b' t' → Added (gather n (at_row p code)) b t b' t'
as_541 p n code b b' t t' e a =
    subst (λ (fs : List Finding). Added fs b t b' t') (gather-agree n (at541 p.tiles) (at_row p code) (λ i l. is_541 p i ∙ ap (λ (d : ℕ). at_row p d i) (sym e))) a

-- ---- a code of which a survey tells that it has no finding on a row
clean-none : (n code : ℕ) (p : Pack) → ((i : ℕ) → i < n → judged p code i ≡ None) → gather n (at_row p code) ≡ []
unfolding at_row
clean-none zero code p h = refl
clean-none (suc n) code p h = simp (clean-none n code p (λ i l. h i (omega arith)), h n (omega arith))

pub quiet-added : (p : Pack) (s : Survey) (code table n : ℕ) (b : List ℕ) (t : Tally) (r : Bool) → Surveyed p s → n ≡ rows_in p table → r ≡ quiet_by s code table → r ≡ true
    → Added (gather n (at_row p code)) b t b t
quiet-added p s code table n b t r h e f g =
    subst (λ (fs : List Finding). Added fs b t b t) (sym (clean-none n code p (λ i l. quiet_row p s h code table (sym f ∙ g) i (subst (λ (m : ℕ). i < m) e l)))) (added_none b t)
