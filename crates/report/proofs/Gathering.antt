-- A walk over rows by a rule of which nothing is known but what it may say: what it has added (Gathering); and that it is a walk of WalkLaws, whatever it is that the rule says (RuleWalking), which the loop over rows keeps.
use Rattle.std.specs.Prelude.{ℕ, ◌+◌, ◌^◌, ◌<◌, ◌≤◌, ◌≡◌, refl, List, length}
use Rattle.std.proofs.Common.{ap, subst, arith}
use Rattle.rules.specs.Judgments.{Judgment}
use Rattle.findings.specs.Findings.{found}
use Rattle.report.specs.Buffers.{Added}
use Rattle.report.specs.BufferLaws.{added_none, added_more}
use Rattle.report.specs.Walks.{Gathers}
use Rattle.report.specs.WalkLaws.{Walking, found-one, walk_start, walk_more, walk_end}
use Rattle.report.specs.declared.Tally.{Tally}

-- it has come to row i, and has added a finding of each row before it at the most
pub record Gathering (says : ℕ → Judgment → Type 0) (code : ℕ) (b : List ℕ) (t : Tally) (i : ℕ) (b' : List ℕ) (t' : Tally) : Type 0 where
  pub gathers : Gathers says code i b t b' t'
  pub few : t'.total ≤ t.total + i

module _ (says : ℕ → Judgment → Type 0) (code : ℕ) (b : List ℕ) (t : Tally) where
  pub gather_start : Gathering says code b t 0 b t
  gather_start = record { gathers = record { added = λ f h. added_none b t }; few = omega arith }

  module _ (i : ℕ) (b₁ : List ℕ) (t₁ : Tally) (w : Gathering says code b t i b₁ t₁) where
    pub gather-room : (n : ℕ) → i < n → t.total + n < 2 ^ 64 → t₁.total + 1 < 2 ^ 64
    gather-room n l h = omega (arith, w.few)

    pub gather_more : (v : Judgment) (b₂ : List ℕ) (t₂ : Tally) → says i v → Added (found code i v) b₁ t₁ b₂ t₂ → Gathering says code b t (i + 1) b₂ t₂
    gather_more v b₂ t₂ s a = record {
      gathers = record {
        added = λ f h. added_more i (λ j. found code j (f j)) (w.gathers.added f (λ j u l. h j u (omega arith)))
            (subst (λ (u : Judgment). Added (found code i u) b₁ t₁ b₂ t₂) (h i v (omega arith) s) a);
      };
      few = omega (arith, w.few, a.count, found-one code i v);
    }

-- it has come to row i of n. The bound stands apart: it holds where there is no one f that the rule says, too
pub record RuleWalking (says : ℕ → Judgment → Type 0) (code : ℕ) (b : List ℕ) (t : Tally) (n i : ℕ) (b' : List ℕ) (t' : Tally) : Type 0 where
  pub walks : (f : ℕ → Judgment) → ((j : ℕ) (v : Judgment) → j < i → says j v → v ≡ f j) → Walking (λ j. found code j (f j)) b t n i b' t'
  pub few : t'.total ≤ t.total + i

module _ (says : ℕ → Judgment → Type 0) (code : ℕ) (b : List ℕ) (t : Tally) (n : ℕ) where
  pub rule_start : RuleWalking says code b t n 0 b t
  rule_start = record { walks = λ f h. walk_start (λ j. found code j (f j)) b t n; few = (gather_start says code b t).few }

  module _ (i : ℕ) (b₁ : List ℕ) (t₁ : Tally) (w : RuleWalking says code b t n i b₁ t₁) where
    -- what it has added is what any such walk has
    pub gathering_of : Gathering says code b t i b₁ t₁
    gathering_of = record { gathers = record { added = λ f h. (w.walks f h).added }; few = w.few }

    pub rule-room : i < n → t.total + n < 2 ^ 64 → t₁.total + 1 < 2 ^ 64
    rule-room = gather-room says code b t i b₁ t₁ gathering_of n

    pub rule_more : (v : Judgment) (b₂ : List ℕ) (t₂ : Tally) → i < n → says i v → Added (found code i v) b₁ t₁ b₂ t₂ → length b₂ ≡ length b₁
        → RuleWalking says code b t n (i + 1) b₂ t₂
    rule_more v b₂ t₂ l s a k = record {
      walks = λ f h. walk_more (λ j. found code j (f j)) b t n code i b₁ b₂ t₁ t₂ v (w.walks f (λ j u m. h j u (omega arith))) l a k
          (ap (found code i) (h i v (omega arith) s));
      few = (gather_more says code b t i b₁ t₁ gathering_of v b₂ t₂ s a).few;
    }

    pub gather_end : n ≤ i → i ≤ n → Gathers says code n b t b₁ t₁
    gather_end l m = record {
      added = λ f h. walk_end (λ j. found code j (f j)) b t n n i b₁ t₁ (w.walks f (λ j u k. h j u (omega arith))) l refl;
    }
