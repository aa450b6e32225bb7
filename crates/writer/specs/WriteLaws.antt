-- What the writer's answers say: what it writes the reader accepts with the same tables, the tables of an accepted listing write back to it, and each reason is given exactly when its fault is there and no earlier one is.
use Prim.Native.Nat.{ℕ, zero, suc, ◌*◌, ◌%◌, ◌^◌, ◌<◌, ◌≤◌}
use Rattle.std.specs.Prelude.{◌≡◌, Bool, ◌&&◌, ◌⊎◌, ◌↔◌, eqb, ltb, get_or, drop, Ok, Err}
use Rattle.std.proofs.Math.Path.{refl, sym, ap}
use Rattle.std.proofs.Common.{◌∙◌, subst}
use mathlib.Core.List.{List, [], ◌∷◌, ◌++◌}
use Rattle.std.proofs.Math.Bool.{true, false, not}
use Rattle.std.proofs.Math.Logic.{inl, inr}
use Rattle.std.proofs.Math.Nat.{div-add-mod, mul-mod_right}
use native.Mathlib.Omega.{arith}
use borrow.Author.Tests.{lt-ltb, le-ltb, eq-eqb, eqb-true, ltb-false, not-false}
use Rattle.std.proofs.Math.ListN.{length}
use Rattle.octets.specs.Octets.{filled}
use Rattle.octets.specs.Search.{first, any}
use Rattle.octets.proofs.SearchLaws.{none-at, any_none}
use Rattle.octets.specs.Gather.{gather}
use Rattle.listing.specs.Listing.{row, most, version, total, offset, start, table, rows, layout}
use Rattle.listing.specs.TableLaws.{Seven}
use Rattle.listing.specs.Header.{start_of}
use Rattle.listing.specs.HeaderLaws.{version-read, total-read, count-read}
use Rattle.listing.specs.Refusals.{Outcome, over, moved, header_reasons, row_reasons, decide_by, decide, outcome, is_accepted}
use Rattle.listing.specs.ReasonLaws.{number_at, numbers_of, place_in, distinct, apart_by, answer_by, Free, Given, given_or_none, decide_stop, decide-none, decide-both, decide-turned, Apart, given-exactly, none-given, good-exactly}
use Rattle.listing.specs.declared.Format.TheVariants.{Edition1}
use Rattle.listing.specs.declared.Refusal.{Refusal}
use Rattle.writer.specs.Parts.{size_of, count_of, joined, written}
use Rattle.writer.specs.PartLaws.{Sized, written-length, written-most, start_small, count_small, offset-written, start-written, tables-written, written_back}
use Rattle.writer.specs.Writing.{Written, ragged, crowded, size_reasons, short_reason, write_reasons, room_answer, write_answer, number_in, octets_in, given_of, WriteOf}

-- ---- what the sizes' reasons say
module _ (ps : ℕ → List ℕ) where
  whole-at : (k : ℕ) → 1 ≤ k → ragged ps k ≡ false → length (ps k) ≡ row k * rows k (ps k)
  unfolding ragged size_of rows
  whole-at k l e =
      let z : length (ps k) % row k ≡ 0 = eqb-true (length (ps k) % row k) 0 (not-false _ (simp (lt-ltb 0 k l) at e)) in
      omega (arith, z, div-add-mod (length (ps k)) (row k))

  few-at : (k : ℕ) → 1 ≤ k → crowded ps k ≡ false → rows k (ps k) ≤ most k
  unfolding crowded count_of
  few-at k l e = ltb-false (most k) (rows k (ps k)) (simp (lt-ltb 0 k l) at e)

  -- where neither is there, the parts are sized
  pub sized : ps 0 ≡ [] → any (ragged ps) 8 ≡ false → any (crowded ps) 8 ≡ false → Sized ps
  sized z e f = record {
    none = z;
    whole = λ k l h. whole-at k l (none-at (ragged ps) 8 e k (omega arith));
    few = λ k l h. few-at k l (none-at (crowded ps) 8 f k (omega arith));
  }

  none_ragged_at : Sized ps → (k : ℕ) → k < 8 → ragged ps k ≡ false
  unfolding ragged size_of
  none_ragged_at w zero l = refl
  none_ragged_at w (suc k) l =
      let z : length (ps (suc k)) % row (suc k) ≡ 0 =
      ap (λ (n : ℕ). n % row (suc k)) (w.whole (suc k) (omega arith) (omega arith)) ∙ mul-mod_right (row (suc k)) (rows (suc k) (ps (suc k))) in
      simp (lt-ltb 0 (suc k) (omega arith), eq-eqb (length (ps (suc k)) % row (suc k)) 0 z)

  none_crowded_at : Sized ps → (k : ℕ) → k < 8 → crowded ps k ≡ false
  unfolding crowded count_of
  none_crowded_at w zero l = refl
  none_crowded_at w (suc k) l = simp (lt-ltb 0 (suc k) (omega arith), le-ltb (most (suc k)) (rows (suc k) (ps (suc k))) (w.few (suc k) (omega arith) (omega arith)))

  -- and of sized parts neither is
  pub sizes-none : Sized ps → Free (size_reasons ps)
  unfolding size_reasons
  sizes-none w zero = any_none (ragged ps) 8 (none_ragged_at w)
  sizes-none w (suc zero) = any_none (crowded ps) 8 (none_crowded_at w)
  sizes-none w (suc (suc i)) = refl

-- ---- the listing that sized parts make, as the reader sees it
-- the reader's refusal as the writer's, or else another answer
abbrev pub refusal_or : Outcome → Written → Written
refusal_or (Ok l) o = o
refusal_or (Err e) o = Err e

-- "5 .. as the reader would give" it: where a count is a word, the reader's own test of the listing put together
pub count_as_reader : (ps : ℕ → List ℕ) (k : ℕ) → 1 ≤ k → k ≤ 7 → count_of ps k < 2 ^ 32 → over Edition1 (written ps) k ≡ crowded ps k
unfolding over crowded written joined
count_as_reader ps k l h c = ap (λ (n : ℕ). ltb 0 k && ltb (most k) n) (count-read 1 (count_of ps) (size_of ps) k (gather 8 ps) l h c)

module _ (ps : ℕ → List ℕ) (v : Seven ps) (w : Sized ps) where
  none_over : (k : ℕ) → k < 8 → over Edition1 (written ps) k ≡ false
  unfolding over
  none_over zero l = refl
  none_over (suc k) l = count_as_reader ps (suc k) (omega arith) (omega arith) (count_small ps w (suc k) (omega arith) (omega arith)) ∙ none_crowded_at ps w (suc k) l

  none-moved : (k : ℕ) → k < 8 → moved Edition1 (written ps) k ≡ false
  unfolding moved
  none-moved zero l = refl
  none-moved (suc k) l =
      let e : offset (written ps) (suc k) ≡ start Edition1 (written ps) (suc k) = offset-written ps v w (suc k) (omega arith) (omega arith) ∙ sym (start-written ps v w (suc k) (omega arith)) in
      let f : start Edition1 (written ps) 8 ≡ length (written ps) = start-written ps v w 8 (omega arith) ∙ sym (written-length ps) in
      simp (lt-ltb 0 (suc k) (omega arith), eq-eqb (offset (written ps) (suc k)) (start Edition1 (written ps) (suc k)) e, eq-eqb (start Edition1 (written ps) 8) (length (written ps)) f) (idle (eqb (suc k) 7))
    where
      idle : (b : Bool) → (b && false) ≡ false
      idle true = refl
      idle false = refl

  least : (z : ℕ → ℕ) → 64 ≤ start_of z 8
  unfolding start_of
  least z = omega arith

  room64 : 64 ≤ length (written ps)
  room64 = omega (arith, written-length ps, least (size_of ps))

  version-written : version (written ps) ≡ 1
  unfolding written joined
  version-written = version-read 1 (count_of ps) (size_of ps) (gather 8 ps) (omega arith)

  total-written : total (written ps) ≡ length (written ps)
  unfolding written joined
  total-written = total-read 1 (count_of ps) (size_of ps) (gather 8 ps) (start_small ps w 8 (omega arith)) ∙ sym (written-length ps)

  -- "2 can't occur", nor can 1, 3, 4 and 6: the header is right by making, and 64 with the most of each table is 9,762,880
  pub header-free : Free (header_reasons Edition1 (written ps))
  unfolding header_reasons
  header-free zero = le-ltb (length (written ps)) 64 room64
  header-free (suc zero) = le-ltb 9762880 (length (written ps)) (written-most ps v w)
  header-free (suc (suc zero)) = ap not (eq-eqb (version (written ps)) 1 version-written)
  header-free (suc (suc (suc zero))) = ap not (eq-eqb (total (written ps)) (length (written ps)) total-written)
  header-free (suc (suc (suc (suc zero)))) = any_none (over Edition1 (written ps)) 8 none_over
  header-free (suc (suc (suc (suc (suc zero))))) = any_none (moved Edition1 (written ps)) 8 none-moved
  header-free (suc (suc (suc (suc (suc (suc i)))))) = refl

  -- so its rows alone decide
  pub rows-decide : outcome (written ps) ≡ decide (row_reasons Edition1 ps) (Ok (layout (written ps)))
  unfolding outcome
  rows-decide =
      decide-both Err (header_reasons Edition1 (written ps)) (row_reasons Edition1 (table (written ps))) (Ok (layout (written ps)))
      ∙ decide-none Err (header_reasons Edition1 (written ps)) (decide (row_reasons Edition1 (table (written ps))) (Ok (layout (written ps)))) header-free
      ∙ ap (λ (ts : ℕ → List ℕ). decide (row_reasons Edition1 ts) (Ok (layout (written ps)))) (tables-written ps v w)

  -- "7 and 8 as the reader would give them", and 13 after them: its refusal of the listing put together from the parts, or else what the room says
  pub as_reader : (room : ℕ) → write_answer ps room ≡ refusal_or (outcome (written ps)) (room_answer ps room)
  unfolding write_answer write_reasons room_answer
  as_reader room =
      decide-both Err (size_reasons ps) (row_reasons Edition1 ps ++ (short_reason ps room ∷ [])) (Ok (length (written ps)))
      ∙ decide-none Err (size_reasons ps) (decide_by Err (row_reasons Edition1 ps ++ (short_reason ps room ∷ [])) (Ok (length (written ps)))) (sizes-none ps w)
      ∙ decide-both Err (row_reasons Edition1 ps) (short_reason ps room ∷ []) (Ok (length (written ps)))
      ∙ sym (decide-turned Err Err (λ (o : Outcome). refusal_or o (room_answer ps room)) (λ e. refl) (row_reasons Edition1 ps) (Ok (layout (written ps))))
      ∙ ap (λ (o : Outcome). refusal_or o (room_answer ps room)) (sym rows-decide)

-- ---- a listing that is written
-- whether it is one
abbrev pub is_written : Written → Bool
is_written (Ok n) = true
is_written (Err e) = false

module _ (ps : ℕ → List ℕ) (room n : ℕ) (e : write_answer ps room ≡ Ok n) where
  none : Free (write_reasons ps room)
  unfolding write_answer
  none = (good-exactly Err is_written (λ e. refl) (write_reasons ps room) (Ok (length (written ps))) refl).0 (ap is_written e)

  -- so many octets: the listing's
  pub octets-written : n ≡ length (written ps)
  unfolding write_answer
  octets-written = ap octets_in (sym e ∙ decide-none Err (write_reasons ps room) (Ok (length (written ps))) none)

  pub octets-sized : ps 0 ≡ [] → Sized ps
  unfolding write_reasons size_reasons
  octets-sized z = sized ps z (none 0) (none 1)

  module _ (v : Seven ps) where
    pub reader_tables : table (written ps) ≡ ps
    reader_tables = tables-written ps v (octets-sized v.none)

    pub never-long : n ≤ 9762880
    never-long = subst (λ (m : ℕ). m ≤ 9762880) (sym octets-written) (written-most ps v (octets-sized v.none))

-- ---- the tables of an accepted listing, in a buffer that has the room
module _ (s : List ℕ) (a : is_accepted (outcome s) ≡ true) (p : (k : ℕ) → get_or s k 0 < 256) where
  -- "parts taken from an accepted listing write back to the same octets"
  pub writes_back : written (table s) ≡ s
  writes_back = written_back s a p

-- ---- each reason exactly
-- they are these six, in this order
pub write_numbers : (ps : ℕ → List ℕ) (room : ℕ) → numbers_of (write_reasons ps room) ≡ 11 ∷ 5 ∷ 7 ∷ 8 ∷ 13 ∷ 12 ∷ []
unfolding write_reasons size_reasons row_reasons
write_numbers ps room = refl

module _ (ps : ℕ → List ℕ) (room : ℕ) where
  apart : Apart (write_reasons ps room) (place_in (numbers_of (write_reasons ps room)))
  unfolding write_reasons size_reasons row_reasons place_in distinct first any
  apart = apart_by (write_reasons ps room) refl

  -- reason k of them is given exactly when its fault is there and none before it is, and then with its place
  pub refused-exactly : (k : ℕ) → k < 6 → (number_in (write_answer ps room) ≡ number_at (write_reasons ps room) k) ↔ Given (write_reasons ps room) k
  unfolding write_answer write_reasons size_reasons row_reasons
  refused-exactly k l = given-exactly Err number_in (λ e. refl) (write_reasons ps room) (place_in (numbers_of (write_reasons ps room))) (Ok (length (written ps))) k apart refl l

  pub refused-place : (k : ℕ) → Given (write_reasons ps room) k → write_answer ps room ≡ answer_by Err (write_reasons ps room) k (Ok (length (written ps)))
  unfolding write_answer
  refused-place k g = decide_stop Err (write_reasons ps room) (Ok (length (written ps))) k g.passed g.there

  -- the parts are written, or refused under one of them
  pub written_or_refused : (write_answer ps room ≡ Ok (length (written ps))) ⊎ ((k : ℕ) × Given (write_reasons ps room) k)
  unfolding write_answer
  written_or_refused = by (given_or_none (write_reasons ps room))
    where
      by : ((k : ℕ) × Given (write_reasons ps room) k) ⊎ Free (write_reasons ps room) → (write_answer ps room ≡ Ok (length (written ps))) ⊎ ((k : ℕ) × Given (write_reasons ps room) k)
      by (inl g) = inr g
      by (inr f) = inl (decide-none Err (write_reasons ps room) (Ok (length (written ps))) f)

  -- where no number is given, they are written
  pub number-none : number_in (write_answer ps room) ≡ 0 → write_answer ps room ≡ Ok (length (written ps))
  unfolding write_answer
  number-none e =
      decide-none Err (write_reasons ps room) (Ok (length (written ps)))
      (none-given Err number_in (λ e. refl) (write_reasons ps room) (place_in (numbers_of (write_reasons ps room))) (Ok (length (written ps))) apart e)

-- ---- one answer, and one buffer
pub write_one : (ps : ℕ → List ℕ) (b b₁ b₂ : List ℕ) (r q : Written) → WriteOf ps b r b₁ → WriteOf ps b q b₂ → (r ≡ q) × (b₁ ≡ b₂)
write_one ps b b₁ b₂ r q x y = (x.answer ∙ sym y.answer, x.buffer ∙ sym y.buffer)

-- "a refusal answers 0 octets and writes nothing"
pub write_refused : (ps : ℕ → List ℕ) (b b' : List ℕ) (r : Written) (x : Refusal) → WriteOf ps b r b' → r ≡ Err x → (octets_in r ≡ 0) × (b' ≡ b)
unfolding filled
write_refused ps b b' r x h e = (ap octets_in e, h.buffer ∙ ap (λ (q : Written). filled (given_of ps q) b) (sym h.answer ∙ e))

-- else the listing stands at the front, and "buffer octets past the listing keep their values"
pub write_written : (ps : ℕ → List ℕ) (b b' : List ℕ) (r : Written) (n : ℕ) → WriteOf ps b r b' → r ≡ Ok n → b' ≡ written ps ++ drop n b
unfolding filled
write_written ps b b' r n h e =
    let q : write_answer ps (length b) ≡ Ok n = sym h.answer ∙ e in
    h.buffer ∙ ap (λ (q : Written). filled (given_of ps q) b) q ∙ ap (λ (m : ℕ). written ps ++ drop m b) (sym (octets-written ps (length b) n q))
