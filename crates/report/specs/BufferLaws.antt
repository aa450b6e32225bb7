-- The laws of adding findings, and what the buffer holds in the end: the octets of those that fit, then what it held.
use Rattle.std.specs.Prelude.{ℕ, suc, ◌+◌, ◌*◌, ◌<◌, ◌≤◌, min, ◌≡◌, refl, Bool, true, false, cond, List, [], ◌∷◌, ◌++◌, eqb, length, take, drop}
use Rattle.std.proofs.Common.{sym, ◌∙◌, append_assoc, add-zero, lt_of_not-le, arith, length-append, length-drop, take_at, drop-drop, lt-ltb, le-ltb, ne_eqb}
use Rattle.std.proofs.Math.Decide.{dec_le}
use Rattle.std.proofs.lemmas.List.Edits.{sets-eq}
use Rattle.std.proofs.Math.Seq.{drop-append-add}
use Rattle.octets.specs.Gather.{gather}
use Rattle.octets.specs.GatherLaws.{gather-one}
use Rattle.findings.specs.Findings.{Finding}
use Rattle.findings.specs.Words.{octets_of, words_of, finding_octets, room, written_of, buffer_of}
use Rattle.report.specs.Buffers.{put_one, put, head_row, Added}
use Rattle.report.specs.declared.Tally.{Tally}

-- ---- steps
keep : (b : Bool) (x : ℕ) → x ≡ cond b x x
keep true x = refl
keep false x = refl

pub added_none : (b : List ℕ) (t : Tally) → Added [] b t b t
added_none b t = record { count = sym (add-zero t.total); row = keep (eqb t.total 0) t.row; buffer = refl }

put-append : (fs gs : List Finding) (b : List ℕ) (n : ℕ) → put b n (fs ++ gs) ≡ put (put b n fs) (n + length fs) gs
put-append [] gs b n = rw add-zero
put-append (f ∷ fs) gs b n =
    let e : n + suc (length fs) ≡ suc n + length fs = omega arith in
    rw e (put-append fs gs (put_one b n f) (suc n))

-- the row of the first of two runs, as the second run finds it
head-append : (fs gs : List Finding) (n n₁ r r₁ r₂ : ℕ) → n₁ ≡ n + length fs
    → r₁ ≡ cond (eqb n 0) (head_row fs r) r → r₂ ≡ cond (eqb n₁ 0) (head_row gs r₁) r₁ → r₂ ≡ cond (eqb n 0) (head_row (fs ++ gs) r) r
head-append [] gs n n₁ r r₁ r₂ e p q =
    let k : r₁ ≡ r = p ∙ sym (keep (eqb n 0) r) in
    let h : n₁ ≡ n = e ∙ add-zero n in
    q ∙ rw (h, k)
head-append (f ∷ fs) gs n n₁ r r₁ r₂ e p q = q ∙ simp (ne_eqb n₁ 0 (λ z. omega arith)) p

pub added-append : {fs gs : List Finding} {b b₁ b₂ : List ℕ} {t t₁ t₂ : Tally}
    → Added fs b t b₁ t₁ → Added gs b₁ t₁ b₂ t₂ → Added (fs ++ gs) b t b₂ t₂
added-append {fs} {gs} {b} {b₁} {b₂} {t} {t₁} {t₂} p q = record {
  count = omega (arith, length-append fs gs, p.count, q.count);
  row = head-append fs gs t.total t₁.total t.row t₁.row t₂.row p.count p.row q.row;
  buffer = q.buffer ∙ rw (p.buffer, p.count) (sym (put-append fs gs b t.total));
}

-- one more of a run
pub added_more : {b b₁ b₂ : List ℕ} {t t₁ t₂ : Tally} (k : ℕ) (f : ℕ → List Finding)
    → Added (gather k f) b t b₁ t₁ → Added (f k) b₁ t₁ b₂ t₂ → Added (gather (k + 1) f) b t b₂ t₂
added_more k f p q = rw (gather-one k f) (added-append p q)

-- ---- the whole
-- a buffer that has no room for number n has none for later ones
put_full : (fs : List Finding) (b : List ℕ) (n : ℕ) → room b ≤ n → put b n fs ≡ b
unfolding put_one
put_full [] b n h = refl
put_full (f ∷ fs) b n h = rw (le-ltb n (room b) h) (put_full fs b (suc n) (omega arith))

-- the first n findings written, p, and then room for f
put-room : (f : Finding) (p b : List ℕ) (n : ℕ) → length p ≡ 12 * n → 12 ≤ length b → put_one (p ++ b) n f ≡ (p ++ octets_of (words_of f)) ++ drop 12 b
unfolding put_one
put-room f p b n e h =
    let r : n < room (p ++ b) = omega (arith, length-append p b) in
    let l : 12 * n + 12 ≤ length (p ++ b) = omega (arith, length-append p b) in
    rw (lt-ltb n (room (p ++ b)) r, sets-eq (octets_of (words_of f)) (p ++ b) (12 * n) l, take_at p b (12 * n) e, ← e, drop-append-add p b 12)

-- how many of fs a buffer b takes
fit : List Finding → List ℕ → ℕ
fit fs b = min (length fs) (room b)

put-after : (fs : List Finding) (p b : List ℕ) (n : ℕ) → length p ≡ 12 * n
    → put (p ++ b) n fs ≡ p ++ (finding_octets (take (fit fs b) fs) ++ drop (12 * fit fs b) b)
unfolding fit
put-after [] p b n e =
    let z : min 0 (room b) ≡ 0 = omega arith in
    rw z
put-after (f ∷ fs) p b n e = elim (dec_le 12 (length b)) [
  | yes h ↦
      let z : min (suc (length fs)) (room b) ≡ suc (min (length fs) (room (drop 12 b))) = omega (arith, length-drop 12 b) in
      let e' : length (p ++ octets_of (words_of f)) ≡ 12 * suc n = omega (arith, length-append p (octets_of (words_of f))) in
      let d : 12 * suc (min (length fs) (room (drop 12 b))) ≡ 12 + 12 * min (length fs) (room (drop 12 b)) = omega arith in
      rw (z, put-room f p b n e h, d, ← drop-drop (12 * min (length fs) (room (drop 12 b))) 12 b)
      (put-after fs (p ++ octets_of (words_of f)) (drop 12 b) (suc n) e' ∙ simp append_assoc)
  | no g ↦
      let h : length b < 12 = lt_of_not-le g in
      let z : min (suc (length fs)) (room b) ≡ 0 = omega arith in
      let r : room (p ++ b) ≤ n = omega (arith, length-append p b) in
      rw (z, put_full (f ∷ fs) (p ++ b) n r)
]

-- the buffer holds the findings that fit, and then what it held
pub put_all : (fs : List Finding) (b : List ℕ) → put b 0 fs ≡ buffer_of fs b
unfolding fit buffer_of written_of
put_all fs b = put-after fs [] b 0 refl
