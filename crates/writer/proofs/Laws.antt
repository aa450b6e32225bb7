-- The cases of the definitions, in the shape in which goals ask for them.
use Prim.Native.Nat.{ℕ, zero, suc, ◌+◌, ◌%◌, ◌^◌, ◌<◌, ◌≤◌}
use mathlib.Core.Path.{◌≡◌, refl, sym, ap, ◌∙◌}
use mathlib.Core.List.{List, [], ◌∷◌, ◌++◌}
use mathlib.Core.Bool.{true, not}
use native.Mathlib.Nat.{le_antisymm}
use native.Mathlib.Numerals.{add-one}
use native.Mathlib.Omega.{arith}
use borrow.Author.Rules.{rules}
use borrow.Author.Tests.{lt-ltb, le-ltb}
use lib.Dec.{eqb, ltb}
use lib.ListN.{length, get_or, length-append}
use lib.Seq.{sets}
use mir.Syntax.{w32, w64}
use mir.Val.{Fits}
use Rattle.octets.specs.Octets.{filled}
use Rattle.octets.specs.BufferLaws.{sets-append, filled_more}
use Rattle.octets.specs.Search.{first}
use Rattle.octets.specs.SearchLaws.{seek-one, finds, misses}
use Rattle.octets.specs.Gather.{gather}
use Rattle.octets.specs.GatherLaws.{gather-around}
use Rattle.listing.specs.Listing.{row, most, numbered, rows}
use Rattle.listing.specs.TableLaws.{numbered-none}
use Rattle.listing.specs.Header.{listed, start_of, header}
use Rattle.listing.specs.HeaderLaws.{start-gather, start-agree, header-length, header-agree}
use Rattle.listing.specs.Refusals.{Checked, refusal, row_reasons, checked}
use Rattle.listing.proofs.Outcomes.{handed}
use Rattle.listing.specs.ReasonLaws.{there_at, answer_by, Passed, pasts, decide-past, decide_stop, decide-both, decide_fault, decide-clean}
use Rattle.listing.specs.declared.Format.TheVariants.{Edition1}
use Rattle.listing.specs.declared.Why.{Why}
use Rattle.listing.specs.declared.Why.TheVariants as why
use Rattle.listing.specs.declared.Refusal.{Refusal}
use Rattle.std.specs.Prelude.{Ok, Err, IsErrAnd}
use Rattle.writer.specs.Parts.{size_of, count_of, numbers, Numbers, joined, written}
use Rattle.writer.specs.PartLaws.{Sized, size_small, count_small, written-length}
use Rattle.writer.specs.Writing.{Written, ragged, crowded, size_reasons, short_reason, write_reasons, room_answer, sized_answer, write_answer, given_of, WriteOf}
use Rattle.writer.proofs.WriteLaws.{octets-fit}
use Rattle.writer.specs.WriteLaws.{sized, octets-sized}

-- ---- a part that the code has taken: its octets and its rows
module _ (ps : ℕ → List ℕ) (t : List ℕ) (k : ℕ) (q : t ≡ ps k) where
  pub size_fits : Sized ps → k ≤ 7 → Fits w32 (length t)
  unfolding size_of
  size_fits w h = record { fits = omega (arith, ap length q, size_small ps w k h) }

  pub count_fits : Sized ps → (n : ℕ) → n ≡ rows k t → 1 ≤ k → k ≤ 7 → Fits w32 n
  unfolding count_of
  count_fits w n u l h = record { fits = omega (arith, u ∙ ap (rows k) q, count_small ps w k l h) }

  pub size-is : length t ≡ size_of ps k
  unfolding size_of
  size-is = ap length q

  pub count-is : (n : ℕ) → n ≡ rows k t → n ≡ count_of ps k
  unfolding count_of
  count-is n u = u ∙ ap (rows k) q

-- ---- numbers, as an array has them
numbers_are : (f g : ℕ → ℕ) → ((k : ℕ) → 1 ≤ k → k ≤ 7 → f k ≡ g k) → numbers f ≡ numbers g
numbers_are f g e =
    let e₁ : f 1 ≡ g 1 = e 1 (omega arith) (omega arith) in
    let e₂ : f 2 ≡ g 2 = e 2 (omega arith) (omega arith) in
    let e₃ : f 3 ≡ g 3 = e 3 (omega arith) (omega arith) in
    let e₄ : f 4 ≡ g 4 = e 4 (omega arith) (omega arith) in
    let e₅ : f 5 ≡ g 5 = e 5 (omega arith) (omega arith) in
    let e₆ : f 6 ≡ g 6 = e 6 (omega arith) (omega arith) in
    let e₇ : f 7 ≡ g 7 = e 7 (omega arith) (omega arith) in
    rw (e₁, e₂, e₃, e₄, e₅, e₆, e₇)

-- by a number of the code, which is what the definition says
pub numbers_by : (f : ℕ → ℕ) (says : ℕ → ℕ → Type 0) (xs : List ℕ) → Numbers says xs → ((k n : ℕ) → 1 ≤ k → k ≤ 7 → says k n → n ≡ f k) → xs ≡ numbers f
numbers_by f says xs w h = w.is ∙ numbers_are w.of f (λ k l m. h k (w.of k) l m (w.said k l m))

pub numbers-made : (says : ℕ → ℕ → Type 0) (x₁ x₂ x₃ x₄ x₅ x₆ x₇ : ℕ) → says 1 x₁ → says 2 x₂ → says 3 x₃ → says 4 x₄ → says 5 x₅ → says 6 x₆ → says 7 x₇
    → Numbers says (0 ∷ x₁ ∷ x₂ ∷ x₃ ∷ x₄ ∷ x₅ ∷ x₆ ∷ x₇ ∷ [])
numbers-made says x₁ x₂ x₃ x₄ x₅ x₆ x₇ h₁ h₂ h₃ h₄ h₅ h₆ h₇ = record { of = of; is = refl; said = said }
  where
    of : ℕ → ℕ
    of k = get_or (0 ∷ x₁ ∷ x₂ ∷ x₃ ∷ x₄ ∷ x₅ ∷ x₆ ∷ x₇ ∷ []) k 0

    said : (k : ℕ) → 1 ≤ k → k ≤ 7 → says k (of k)
    said zero l m = absurd (omega (arith, l))
    said (suc zero) l m = h₁
    said (suc (suc zero)) l m = h₂
    said (suc (suc (suc zero))) l m = h₃
    said (suc (suc (suc (suc zero)))) l m = h₄
    said (suc (suc (suc (suc (suc zero))))) l m = h₅
    said (suc (suc (suc (suc (suc (suc zero)))))) l m = h₆
    said (suc (suc (suc (suc (suc (suc (suc zero))))))) l m = h₇
    said (suc (suc (suc (suc (suc (suc (suc (suc k)))))))) l m = absurd (omega (arith, m))

numbers-at : (f : ℕ → ℕ) (k : ℕ) → 1 ≤ k → k < 8 → listed (numbers f) k ≡ f k
numbers-at f zero l h = absurd (omega (arith, l))
numbers-at f (suc zero) l h = refl
numbers-at f (suc (suc zero)) l h = refl
numbers-at f (suc (suc (suc zero))) l h = refl
numbers-at f (suc (suc (suc (suc zero)))) l h = refl
numbers-at f (suc (suc (suc (suc (suc zero))))) l h = refl
numbers-at f (suc (suc (suc (suc (suc (suc zero)))))) l h = refl
numbers-at f (suc (suc (suc (suc (suc (suc (suc zero))))))) l h = refl
numbers-at f (suc (suc (suc (suc (suc (suc (suc (suc k)))))))) l h = absurd (omega (arith, h))

module _ (ps : ℕ → List ℕ) (w : Sized ps) where
  sizes-at : (k : ℕ) → k < 8 → listed (numbers (size_of ps)) k ≡ size_of ps k
  unfolding size_of
  sizes-at zero h = sym (ap length w.none)
  sizes-at (suc k) h = numbers-at (size_of ps) (suc k) (omega arith) h

  pub length-is : (xs : List ℕ) (n : ℕ) → xs ≡ numbers (size_of ps) → n ≡ start_of (listed xs) 8 → n ≡ length (written ps)
  length-is xs n q r = r ∙ ap (λ (ys : List ℕ). start_of (listed ys) 8) q ∙ start-agree (listed (numbers (size_of ps))) (size_of ps) 8 sizes-at ∙ sym (written-length ps)

  alike : header 1 (listed (numbers (count_of ps))) (listed (numbers (size_of ps))) ≡ header 1 (count_of ps) (size_of ps)
  alike = header-agree 1 (listed (numbers (count_of ps))) (count_of ps) (listed (numbers (size_of ps))) (size_of ps) (numbers-at (count_of ps)) sizes-at

  -- the header and then the parts are the listing
  pub listing_put : (b₀ b₁ b₂ cs zs : List ℕ) → cs ≡ numbers (count_of ps) → zs ≡ numbers (size_of ps) → length (written ps) ≤ length b₀
      → b₁ ≡ filled (header 1 (listed cs) (listed zs)) b₀ → b₂ ≡ sets b₁ 64 (joined ps 8) → b₂ ≡ filled (written ps) b₀
  unfolding written
  listing_put b₀ b₁ b₂ cs zs p q h r u =
      filled_more (header 1 (count_of ps) (size_of ps)) (joined ps 8) b₀ b₁ b₂ 64
      (r ∙ ap (λ (xs : List ℕ). filled (header 1 (listed xs) (listed zs)) b₀) p ∙ ap (λ (xs : List ℕ). filled (header 1 (listed (numbers (count_of ps))) (listed xs)) b₀) q ∙ ap (λ (xs : List ℕ). filled xs b₀) alike)
      (sym (header-length 1 (count_of ps) (size_of ps))) (omega (arith, h, long)) u
    where
      long : length (header 1 (count_of ps) (size_of ps) ++ joined ps 8) ≡ 64 + length (joined ps 8)
      long = length-append (header 1 (count_of ps) (size_of ps)) (joined ps 8) ∙ ap (λ (n : ℕ). n + length (joined ps 8)) (header-length 1 (count_of ps) (size_of ps))

-- ---- the parts, one after the other: b is the buffer before, d where the first k are put
joined-room : (ps : ℕ → List ℕ) (n k : ℕ) → k < n → length (joined ps k) + length (ps k) ≤ length (joined ps n)
unfolding joined
joined-room ps n k l =
    let q = gather-around k n ps l in
    omega (arith, ap length q.1, length-append (gather k ps) (ps k ++ q.0), length-append (ps k) q.0)

joined_length : (ps : ℕ → List ℕ) → length (written ps) ≡ 64 + length (joined ps 8)
unfolding size_of joined
joined_length ps = written-length ps ∙ start-gather ps 8

pub header-room : (ps : ℕ → List ℕ) (n : ℕ) → length (written ps) ≤ n → 64 ≤ n
header-room ps n h = omega (arith, joined_length ps)

pub parts-room : (ps : ℕ → List ℕ) (n m : ℕ) → length (written ps) ≤ n → m ≡ n → 64 + length (joined ps 8) ≤ m
parts-room ps n m h e = omega (arith, joined_length ps)

module _ (ps : ℕ → List ℕ) (t b d : List ℕ) (at k : ℕ) (p : at ≡ 64 + length (joined ps k)) (q : t ≡ ps k) (l : k < 8) where
  pub part_room : 64 + length (joined ps 8) ≤ length b → length d ≡ length b → at + length t ≤ length d
  part_room h e = omega (arith, ap length q, joined-room ps 8 k l)

  pub part-fits : 64 + length (joined ps 8) ≤ length b → length b < 2 ^ 64 → Fits w64 (at + length t)
  part-fits h e = record { fits = omega (arith, ap length q, joined-room ps 8 k l) }

  pub at_more : at + length t ≡ 64 + length (joined ps (k + 1))
  unfolding joined
  at_more = rw add-one (omega (arith, ap length q, length-append (gather k ps) (ps k)))

  pub part-more : (x : List ℕ) → d ≡ sets b 64 (joined ps k) → x ≡ sets d at t → x ≡ sets b 64 (joined ps (k + 1))
  unfolding joined
  part-more x u r = r ∙ rw (u, p, q, add-one) (sym (sets-append (gather k ps) (ps k) b 64))

-- there is no table 0
module _ (ts : List (List ℕ)) where
  joined-none : joined (numbered ts) 1 ≡ []
  unfolding joined
  joined-none = ap (λ (xs : List ℕ). [] ++ xs) (numbered-none ts)

  pub at_none_lem : 64 ≡ 64 + length (joined (numbered ts) 1)
  at_none_lem = ap (λ (xs : List ℕ). 64 + length xs) (sym joined-none)

  pub part_none : (b : List ℕ) → b ≡ sets b 64 (joined (numbered ts) 1)
  part_none b = ap (sets b 64) (sym joined-none)

pub parts_whole : (ps : ℕ → List ℕ) (b d : List ℕ) (k : ℕ) → k ≤ 8 → 8 ≤ k → d ≡ sets b 64 (joined ps k) → d ≡ sets b 64 (joined ps 8)
parts_whole ps b d k l h e = e ∙ ap (λ (n : ℕ). sets b 64 (joined ps n)) (le_antisymm l h)

-- ---- 11 and 5 at a table that there is
module _ (ps : ℕ → List ℕ) where
  pub ragged-of : (k n : ℕ) (t : List ℕ) → 1 ≤ k → t ≡ ps k → n ≡ row k → not (eqb (length t % n) 0) ≡ ragged ps k
  unfolding ragged size_of
  ragged-of k n t l q e = simp (lt-ltb 0 k l) (cc)

  pub crowded-of : (k m n : ℕ) (t : List ℕ) → 1 ≤ k → m ≡ most k → t ≡ ps k → n ≡ rows k t → ltb m n ≡ crowded ps k
  unfolding crowded count_of
  crowded-of k m n t l e q g = simp (lt-ltb 0 k l) (cc)

  -- there is no table 0
  pub ragged-first : first (ragged ps) 1 ≡ 1
  unfolding ragged
  ragged-first = (seek-one (ragged ps) 1 refl (omega arith)).none

  pub crowded-first : first (crowded ps) 1 ≡ 1
  unfolding crowded
  crowded-first = (seek-one (crowded ps) 1 refl (omega arith)).none

-- ---- the reasons as the code meets them
-- the place, by numbers that equal its own
pub placed : (x : Refusal) (w : Why) (t i u j : ℕ) → x ≡ refusal w t i → t ≡ u → i ≡ j → ◌≡◌ {A = Written} (Err x) (Err (refusal w u j))
placed x w t i u j e f g = cc

pub size_stop : (k : ℕ) (ps : ℕ → List ℕ) (room : ℕ) (r : Written) → Passed (write_reasons ps room) k → there_at (write_reasons ps room) k ≡ true
    → r ≡ answer_by Err (write_reasons ps room) k (Ok (length (written ps))) → r ≡ write_answer ps room
unfolding write_answer
size_stop k ps room r h e q = q ∙ sym (decide_stop Err (write_reasons ps room) (Ok (length (written ps))) k h e)

module _ (ps : ℕ → List ℕ) (room : ℕ) (r : Written) where
  pub sizes-past : Passed (write_reasons ps room) 2 → r ≡ sized_answer ps room → r ≡ write_answer ps room
  unfolding write_answer sized_answer room_answer write_reasons size_reasons
  sizes-past h q =
      q ∙ sym (decide-past Err (write_reasons ps room) (Ok (length (written ps))) 2 h ∙ decide-both Err (row_reasons Edition1 ps) (short_reason ps room ∷ []) (Ok (length (written ps))))

  pub rows_fault : (c : Checked) (x : Refusal) → c ≡ checked (row_reasons Edition1 ps) → c ≡ Err x → IsErrAnd r (λ e. e ≡ x) → r ≡ sized_answer ps room
  unfolding sized_answer
  rows_fault c x e f q = handed x r q ∙ sym (decide_fault Err (row_reasons Edition1 ps) (room_answer ps room) x (sym e ∙ f))

  pub rows-clean : (c : Checked) → c ≡ checked (row_reasons Edition1 ps) → c ≡ Ok tt → r ≡ room_answer ps room → r ≡ sized_answer ps room
  unfolding sized_answer
  rows-clean c e f q = q ∙ sym (decide-clean Err (row_reasons Edition1 ps) (room_answer ps room) (sym e ∙ f))

module _ (ps : ℕ → List ℕ) (room n : ℕ) (e : n ≡ length (written ps)) where
  pub room-short : (x : Refusal) → room < n → x ≡ refusal why.Room 0 0 → Err x ≡ room_answer ps room
  unfolding room_answer
  room-short x l q = simp (lt-ltb room (length (written ps)) (omega arith)) (ap (λ (e : Refusal). Err e) q)

  pub room_whole : n ≤ room → Ok n ≡ room_answer ps room
  unfolding room_answer
  room_whole l = simp (le-ltb room (length (written ps)) (omega arith)) (ap (λ (m : ℕ). Ok m) e)

pub ruleset steps = (pasts, placed, finds, misses, rules)

pub sized-by : (ts : List (List ℕ)) (k m : ℕ) → k ≡ first (ragged (numbered ts)) 8 → 8 ≤ k → m ≡ first (crowded (numbered ts)) 8 → 8 ≤ m → Sized (numbered ts)
sized-by ts k m e l f h = sized (numbered ts) (numbered-none ts) (misses (ragged (numbered ts)) 8 k e l) (misses (crowded (numbered ts)) 8 m f h)

-- ---- the promise
module _ (ps : ℕ → List ℕ) (b : List ℕ) (r : Written) (m : ℕ) (w : m ≡ length b) (e : r ≡ write_answer ps m) where
  by : (a : Written) (b' : List ℕ) → r ≡ a → b' ≡ filled (given_of ps a) b → WriteOf ps b a b'
  by a b' f g =
      let q : a ≡ write_answer ps (length b) = sym f ∙ e ∙ ap (write_answer ps) w in
      record { answer = q; buffer = g ∙ ap (λ (a : Written). filled (given_of ps a) b) q }

  pub write_none : (x : Refusal) (a : Written) → r ≡ Err x → IsErrAnd a (λ e. e ≡ x) → WriteOf ps b a b
  unfolding filled
  write_none x a f h = let q : a ≡ Err x = handed x a h in by a b (f ∙ sym q) (ap (λ (a : Written). filled (given_of ps a) b) (sym q))

  pub write_whole : (n : ℕ) (b' : List ℕ) → r ≡ Ok n → b' ≡ filled (written ps) b → WriteOf ps b (Ok n) b'
  write_whole n b' f g = by (Ok n) b' f g

module _ (ts : List (List ℕ)) (r : Written) (m n : ℕ) (e : r ≡ write_answer (numbered ts) m) (q : r ≡ Ok n) where
  pub write_sized : Sized (numbered ts)
  write_sized = octets-sized (numbered ts) m n (sym e ∙ q) (numbered-none ts)

  pub write_room : length (written (numbered ts)) ≤ m
  write_room = octets-fit (numbered ts) m n (sym e ∙ q)
