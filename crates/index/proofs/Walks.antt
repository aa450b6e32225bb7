-- The laws of a walk through lent octets, in the shape in which goals ask for them.
use Prim.Native.Nat.{ℕ, suc, ◌+◌, ◌-◌, ◌*◌, ◌/◌, ◌%◌, ◌<◌, ◌≤◌}
use mathlib.Core.Path.{◌≡◌, refl, sym, ◌∙◌}
use mathlib.Core.List.{List}
use mathlib.Core.Bool.{Bool, true, false}
use native.Mathlib.Omega.{arith}
use borrow.Author.Rules.{rules}
use lib.ListN.{length}
use Rattle.octets.specs.Search.{first}
use Rattle.index.specs.Chains.{row_range, newest, marked, Walk}
use Rattle.index.specs.ChainLaws.{walk_start, walk-found, walk-entry, walk-on, walk_end, marked-zero, marked-none, marked_row, marked-print}
use Rattle.index.specs.Work.{word_at, Leads}

-- a walk has come to the word x, which is row j - 1, or none where j is 0
pub record Walking (test : ℕ → Bool) (w : List ℕ) (m h p n x : ℕ) : Type 0 where
  pub leads : Leads test w m h p n
  pub j : ℕ
  pub word : x ≡ marked leads.print j
  pub walk : Walk leads.fits leads.hash test h n j

module _ {test : ℕ → Bool} {w : List ℕ} {m h p n : ℕ} where
  pub walking_start : {x : ℕ} → Leads test w m h p n → x ≡ word_at w h → Walking test w m h p n x
  walking_start {x} l e = record {
    leads = l;
    j = newest l.fits l.hash h n;
    word = e ∙ l.indexed.index.head h l.below;
    walk = walk_start l.fits l.hash test h l.asks n (newest l.fits l.hash h n) refl;
  }

  row_of : {x : ℕ} (s : Walking test w m h p n x) → x % row_range ≡ s.j
  row_of {x} s = marked_row s.leads.print s.j x s.word (omega (arith, s.walk.low, s.leads.inside, s.leads.indexed.small))

  module _ {x : ℕ} (s : Walking test w m h p n x) where
    -- the row that it has come to is there, and so is its link
    module _ (o : x ≡ 0 → ⊥) where
      some : s.j ≡ 0 → ⊥
      some e = o (s.word ∙ rw e (marked-zero s.leads.print))

      at : s.j ≡ suc (x % row_range - 1)
      at = omega (arith, row_of s, some)

      pub walking_row : (0 < x % row_range) × (x % row_range - 1 < n) × (4 * (m + (x % row_range - 1)) + 4 ≤ length w)
      walking_row = (omega (arith, at, row_of s), omega (arith, at, s.walk.low), omega (arith, at, s.walk.low, s.leads.inside, s.leads.indexed.room))

      -- where it passes, its print is p
      pub walking_print : test (x % row_range - 1) ≡ true → x / row_range ≡ p
      walking_print t =
          marked-print s.leads.print (x % row_range - 1) x (rw at at s.word) (omega (arith, at, s.walk.low, s.leads.inside, s.leads.indexed.small))
          ∙ s.leads.printed (x % row_range - 1) t

      module _ {b : Bool} (e : b ≡ test (x % row_range - 1)) where
        -- b is the outcome of its test
        pub walking_found : b ≡ true → x % row_range - 1 ≡ first test n
        walking_found t = walk-found s.leads.fits s.leads.hash test h s.leads.asks n s.j (x % row_range - 1) at s.walk (sym e ∙ t)

        abbrev next : ℕ
        next = newest s.leads.fits s.leads.hash (s.leads.hash (x % row_range - 1)) (x % row_range - 1)

        on : b ≡ false → Walk s.leads.fits s.leads.hash test h n next × (next < s.j)
        on f = walk-on s.leads.fits s.leads.hash test h s.leads.asks n s.j (x % row_range - 1) next at s.walk (sym e ∙ f) (λ new. refl)

        -- v is its link
        pub walking_on : {v : ℕ} → b ≡ false → v ≡ word_at w (m + (x % row_range - 1)) → Walking test w m h p n v
        walking_on f q = record {
          leads = s.leads;
          j = next;
          word = q ∙ s.leads.indexed.index.link (x % row_range - 1) walking_row.1 (walk-entry s.leads.fits s.leads.hash test h s.leads.asks n s.j (x % row_range - 1) at s.walk);
          walk = (on f).0;
        }

        pub walking_less : {v : ℕ} → b ≡ false → v ≡ word_at w (m + (x % row_range - 1)) → v % row_range < x % row_range
        unfolding walking_on
        walking_less f q = let t = walking_on f q in omega (arith, row_of t, row_of s, (on f).1)

    pub walking_end : x ≡ 0 → n ≡ first test n
    walking_end e = walk_end s.leads.fits s.leads.hash test h s.leads.asks n (rw (marked-none s.leads.print s.j (sym s.word ∙ e)) at s.walk)

-- a row with another print does not pass
pub print-differs : (a : Bool) (x p : ℕ) → (a ≡ true → x ≡ p) → (x ≡ p → ⊥) → false ≡ a
print-differs true x p f o = absurd (o (f refl))
print-differs false x p f o = refl

pub ruleset walks = (walking_start, walking_found, walking_on, walking_less, walking_end, rules)
