-- What a caller of the writer has from its promise: one answer, which its words read as; a listing that the reader accepts with the same tables; a refusal that writes nothing.
use Prim.Native.Nat.{ℕ, zero, suc, ◌*◌, ◌<◌, ◌≤◌}
use Rattle.std.specs.Prelude.{List, [], ◌∷◌, ◌≡◌, Bool, cond, ◌⊎◌, ltb, length, get_or, take, Ok, Err}
use Rattle.std.proofs.Math.Path.{refl, ap, subst}
use Rattle.std.proofs.Common.{sym, ◌∙◌, inl, inr, lt-ltb, le-ltb}
use Rattle.std.proofs.Math.Bool.{true, false}
use native.Mathlib.Omega.{arith}
use Rattle.octets.specs.Octets.{le32, filled}
use Rattle.octets.specs.BufferLaws.{filled_none, filled-front, filled-past}
use Rattle.octets.proofs.SearchLaws.{first-lowest}
use Rattle.listing.specs.Listing.{table, tables_of, numbered}
use Rattle.listing.specs.TableLaws.{Seven, tables-numbered, numbered-seven, tables_are}
use Rattle.listing.specs.Refusals.{outcome, is_accepted, Outcome, number, refusal}
use Rattle.listing.specs.declared.Refusal.{Refusal}
use Rattle.listing.specs.declared.Why.TheVariants as why
use Rattle.listing.specs.ReasonLaws.{Given}
use Rattle.writer.specs.Parts.{written}
use Rattle.writer.specs.PartLaws.{Sized, written-most}
use Rattle.writer.specs.Writing.{Written, ragged, crowded, size_reasons, write_reasons, room_answer, write_answer, number_in, octets_in, given_of}
use Rattle.writer.proofs.WriteLaws.{reader_accepts, writes_all}
use Rattle.writer.specs.WriteLaws.{sized, refusal_or, as_reader, reader_tables, never-long, writes_back, refused-place, written_or_refused, number-none}
use Rattle.pack.specs.Tables.{pack_in, pack_of}
use Rattle.pack.specs.declared.Form.TheVariants as form
use Rattle.findings.specs.Demands.{AllFit}
use Rattle.findings.specs.RefusedLaws.{written-fit, place-fits}
use Rattle.desterlin.specs.Calls.{written_words, WriteCall}
use Rattle.desterlin.specs.AnswerLaws.{answer-read}

-- ---- two answers that keep one promise are the same
pub write_one : {ts : List (List ℕ)} {b a : List ℕ} {r₁ r₂ : ℕ} {b₁ b₂ a₁ a₂ : List ℕ}
    → WriteCall ts b a r₁ b₁ a₁ → WriteCall ts b a r₂ b₂ a₂ → (r₁ ≡ r₂) × (b₁ ≡ b₂) × (a₁ ≡ a₂)
write_one p q = (p.status ∙ sym q.status, p.buffer ∙ sym q.buffer, p.answer ∙ sym q.answer)

-- ---- "where the answer buffer is too short, nothing is written and 0 is returned"
pub write_short_kept : {ts : List (List ℕ)} {b a : List ℕ} {r : ℕ} {b' a' : List ℕ} → WriteCall ts b a r b' a' → length a < 16 → (r ≡ 0) × (b' ≡ b) × (a' ≡ a)
write_short_kept {a = a} p h =
    let t = lt-ltb (length a) 16 h in
    (p.status ∙ rw t, p.buffer ∙ rw t, p.answer ∙ rw t)

-- ---- number, table, row and octets fit their words
module _ (ps : ℕ → List ℕ) (v : Seven ps) (room : ℕ) where
  abbrev Good : Written → Type 0
  Good a = AllFit (written_words a)

  sized-fits : Sized ps → Good (write_answer ps room)
  unfolding room_answer
  sized-fits w = subst Good (sym (as_reader ps v w room)) (by (outcome (written ps)) refl)
    where
      roomed : (short : Bool) → Good (cond short (Err (refusal why.Room 0 0)) (Ok (length (written ps))))
      roomed true = written-fit (12 ∷ 0 ∷ 0 ∷ 0 ∷ []) refl
      roomed false = (omega arith, (omega arith, (omega arith, (omega (arith, written-most ps v w), tt))))

      by : (o : Outcome) → outcome (written ps) ≡ o → Good (refusal_or o (room_answer ps room))
      by (Ok l) e = roomed (ltb room (length (written ps)))
      by (Err w) e =
          let q : AllFit (number w.why ∷ w.table ∷ w.row ∷ []) = rw e at (place-fits (written ps)) in
          (q.0, (q.1.0, (q.1.1.0, (omega arith, tt))))

  pub write_fits : AllFit (written_words (write_answer ps room))
  unfolding write_reasons size_reasons
  write_fits = by (written_or_refused ps room)
    where
      at_reason : (k : ℕ) → Given (write_reasons ps room) k → Good (write_answer ps room)
      at_reason zero g = subst Good (sym (refused-place ps room 0 g)) (omega arith, (omega (arith, (first-lowest (ragged ps) 8).most), written-fit (0 ∷ 0 ∷ []) refl))
      at_reason (suc zero) g = subst Good (sym (refused-place ps room 1 g)) (omega arith, (omega (arith, (first-lowest (crowded ps) 8).most), written-fit (0 ∷ 0 ∷ []) refl))
      at_reason (suc (suc k)) g = sized-fits (sized ps v.none (g.passed.none 0 (omega arith)) (g.passed.none 1 (omega arith)))

      by : (write_answer ps room ≡ Ok (length (written ps))) ⊎ ((k : ℕ) × Given (write_reasons ps room) k) → Good (write_answer ps room)
      by (inl e) = subst Good (sym e) (omega arith, (omega arith, (omega arith, (omega (arith, never-long ps room (length (written ps)) e v), tt))))
      by (inr g) = at_reason g.0 g.1

-- ---- what the words say
module _ {ts : List (List ℕ)} {b a : List ℕ} {r : ℕ} {b' a' : List ℕ} (p : WriteCall ts b a r b' a') (seven : length ts ≡ 7) (whole : 16 ≤ length a) where
  pub write_reads : (k : ℕ) → k < 4 → le32 a' (4 * k) ≡ get_or (written_words (write_answer (numbered ts) (length b))) k 0
  write_reads k l =
      answer-read 16 (written_words (write_answer (numbered ts) (length b))) a a' k whole (write_fits (numbered ts) (numbered-seven ts seven) (length b)) l p.answer

  -- the number of the refusal, 0 where there is none
  pub write_number : le32 a' 0 ≡ number_in (write_answer (numbered ts) (length b))
  write_number = write_reads 0 (omega arith)

  pub write_octets : le32 a' 12 ≡ octets_in (write_answer (numbered ts) (length b))
  write_octets = write_reads 3 (omega arith)

  wrote : (v : Written) → write_answer (numbered ts) (length b) ≡ v → b' ≡ filled (given_of (numbered ts) v) b
  wrote v e = p.buffer ∙ rw (le-ltb (length a) 16 whole) (ap (λ (w : Written). filled (given_of (numbered ts) w) b) e)

  -- "a refusal answers 0 octets and writes nothing"
  pub write_refused_kept : (le32 a' 0 ≡ 0 → ⊥) → (le32 a' 12 ≡ 0) × (b' ≡ b)
  write_refused_kept n = by (write_answer (numbered ts) (length b)) refl
    where
      by : (v : Written) → write_answer (numbered ts) (length b) ≡ v → (le32 a' 12 ≡ 0) × (b' ≡ b)
      by (Ok m) e = absurd (n (write_number ∙ ap number_in e))
      by (Err w) e = (write_octets ∙ ap octets_in e, wrote (Err w) e ∙ sym (filled_none b))

  -- where the number is 0, so many octets as word 3 says are the listing of the parts
  module _ (e : le32 a' 0 ≡ 0) where
    answered : write_answer (numbered ts) (length b) ≡ Ok (length (written (numbered ts)))
    answered = number-none (numbered ts) (length b) (sym write_number ∙ e)

    pub write_length : le32 a' 12 ≡ length (written (numbered ts))
    write_length = write_octets ∙ ap octets_in answered

    pub write_front : take (le32 a' 12) b' ≡ written (numbered ts)
    write_front =
        ap (λ (n : ℕ). take n b') write_length ∙ ap (take (length (written (numbered ts)))) (wrote (Ok (length (written (numbered ts)))) answered)
        ∙ filled-front (written (numbered ts)) b

    -- "what it writes, the reader accepts"
    pub write_accepted : is_accepted (outcome (take (le32 a' 12) b')) ≡ true
    write_accepted =
        ap (λ (s : List ℕ). is_accepted (outcome s)) write_front
        ∙ ap is_accepted (reader_accepts (numbered ts) (length b) (length (written (numbered ts))) answered (numbered-seven ts seven))

    -- "with the same rows and names": the same octets of every table, and so the same pack
    pub write_tables : tables_of (take (le32 a' 12) b') ≡ ts
    write_tables =
        ap tables_of write_front
        ∙ tables_are (written (numbered ts)) ts seven (reader_tables (numbered ts) (length b) (length (written (numbered ts))) answered (numbered-seven ts seven))

    pub write_pack : pack_of (take (le32 a' 12) b') ≡ pack_in form.Rows ts
    unfolding pack_of
    write_pack = ap (pack_in form.Rows) write_tables

  -- "buffer octets past the listing keep their values"
  pub write_past : (j : ℕ) → le32 a' 12 ≤ j → get_or b' j 0 ≡ get_or b j 0
  write_past j l = by (write_answer (numbered ts) (length b)) refl
    where
      by : (v : Written) → write_answer (numbered ts) (length b) ≡ v → get_or b' j 0 ≡ get_or b j 0
      by (Ok m) e =
          let z : le32 a' 0 ≡ 0 = write_number ∙ ap number_in e in
          ap (λ (x : List ℕ). get_or x j 0) (wrote (Ok m) e) ∙ filled-past (written (numbered ts)) b j (subst (λ (n : ℕ). n ≤ j) (write_length z) l)
      by (Err w) e = ap (λ (x : List ℕ). get_or x j 0) (wrote (Err w) e ∙ sym (filled_none b))

  -- "parts taken from an accepted listing write back to the same octets"
  pub write_back : (s : List ℕ) → is_accepted (outcome s) ≡ true → ((k : ℕ) → get_or s k 0 < 256) → ts ≡ tables_of s → length s ≤ length b
      → (le32 a' 0 ≡ 0) × (le32 a' 12 ≡ length s) × (take (length s) b' ≡ s)
  write_back s x y t l =
      let q : numbered ts ≡ table s = ap numbered t ∙ tables-numbered s in
      let o : write_answer (numbered ts) (length b) ≡ Ok (length s) = ap (λ (ps : ℕ → List ℕ). write_answer ps (length b)) q ∙ writes_all s x y (length b) l in
      let n : le32 a' 0 ≡ 0 = write_number ∙ ap number_in o in
      let m : le32 a' 12 ≡ length s = write_octets ∙ ap octets_in o in
      (n, m, ap (λ (k : ℕ). take k b') (sym m) ∙ write_front n ∙ ap written q ∙ writes_back s x y)
