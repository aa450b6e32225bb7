-- The laws of a buffer that is written from its front, run after run: what is written, and then what it held.
use Rattle.std.specs.Prelude.{ℕ, suc, ◌+◌, ◌-◌, ◌<◌, ◌≤◌, ◌≡◌, refl, List, [], ◌∷◌, ◌++◌, length, take, drop, get_or, set}
use Rattle.std.proofs.Common.{sym, ap, ◌∙◌, append_assoc, le_antisymm, add-zero, zero-add, add-one, arith, le-leb, length-append, length-drop, drop-drop, get_or-append-add, get_or-drop}
use Rattle.std.proofs.lemmas.List.Edits.{sets, sets-eq}
use Rattle.std.proofs.Math.Seq.{paste, paste-zero, paste-suc, take-append_seam, drop-append_seam, drop-append-add, take-length}
use Rattle.octets.specs.Octets.{part, word, filled}

-- ---- one run, octet by octet: b is the buffer before, s what is put at a place of it
module _ (b s : List ℕ) (at : ℕ) where
  pub put-none : b ≡ paste b at s 0
  put-none = paste-zero b at s

  pub put-more : (i : ℕ) (d : List ℕ) → d ≡ paste b at s i → i < length s → at + length s ≤ length b → set d (at + i) (get_or s i 0) ≡ paste b at s (i + 1)
  put-more i d e l h = rw (e, add-one) (paste-suc b at s i 0 (omega arith) l)

  pub put_whole : (i : ℕ) (d : List ℕ) → d ≡ paste b at s i → i ≤ length s → length s ≤ i → at + length s ≤ length b → d ≡ sets b at s
  put_whole i d e l m h =
      let q : i ≡ length s = le_antisymm l m in
      e ∙ rw (q, take-length s) (sym (sets-eq s b at h))

-- ---- run after run
-- a run that follows another
pub sets-append : (xs ys b : List ℕ) (at : ℕ) → sets b at (xs ++ ys) ≡ sets (sets b at xs) (at + length xs) ys
sets-append [] ys b at = rw add-zero
sets-append (x ∷ xs) ys b at =
    let e : at + suc (length xs) ≡ suc at + length xs = omega arith in
    rw e (sets-append xs ys (set b at x) (suc at))

pub put_two : (b c d : List ℕ) (at x y : ℕ) → c ≡ sets b at (word x) → d ≡ sets c (at + 4) (word y) → d ≡ sets b at (word x ++ word y)
put_two b c d at x y e f = f ∙ rw e (sym (sets-append (word x) (word y) b at))

pub filled_none : (b : List ℕ) → b ≡ filled [] b
unfolding filled
filled_none b = refl

pub length-filled : (xs b : List ℕ) → length xs ≤ length b → length (filled xs b) ≡ length b
unfolding filled
length-filled xs b h = simp (length-append, length-drop) (omega arith)

-- the octets that were put stand at the front, and octets past them keep their values
pub filled-front : (xs b : List ℕ) → take (length xs) (filled xs b) ≡ xs
unfolding filled
filled-front xs b = take-append_seam xs (drop (length xs) b)

pub filled-past : (xs b : List ℕ) (j : ℕ) → length xs ≤ j → get_or (filled xs b) j 0 ≡ get_or b j 0
unfolding filled
filled-past xs b j h =
    let e : length xs + (j - length xs) ≡ j = omega arith in
    ap (λ (n : ℕ). get_or (xs ++ drop (length xs) b) n 0) (sym e) ∙ get_or-append-add xs (drop (length xs) b) (j - length xs) 0 ∙ get_or-drop (length xs) b (j - length xs) 0 ∙ ap (λ (n : ℕ). get_or b n 0) e

-- the first run
pub filled-first : (xs b c : List ℕ) → length xs ≤ length b → c ≡ sets b 0 xs → c ≡ filled xs b
unfolding filled
filled-first xs b c h e = e ∙ sets-eq xs b 0 (omega arith) ∙ rw zero-add

-- one run more, at the end of those before it
pub filled_more : (p xs b c d : List ℕ) (at : ℕ) → c ≡ filled p b → at ≡ length p → at + length xs ≤ length b → d ≡ sets c at xs → d ≡ filled (p ++ xs) b
unfolding filled
filled_more p xs b c d at e q h f =
    let l : length p + length xs ≤ length (p ++ drop (length p) b) = simp (length-append, length-drop) (omega arith) in
    f ∙ rw (e, q, sets-eq xs (p ++ drop (length p) b) (length p) l, take-append_seam p (drop (length p) b), drop-append-add p (drop (length p) b) (length xs), drop-drop, length-append, append_assoc)

-- a run over the one that was there
pub filled-over : (p xs b : List ℕ) → length p ≤ length xs → filled xs (filled p b) ≡ filled xs b
unfolding filled
filled-over p xs b h =
    let e : length xs ≡ length p + (length xs - length p) = omega arith in
    rw (e, drop-append-add p (drop (length p) b) (length xs - length p), drop-drop)

-- a part that stands between others
pub part-between : (p t q : List ℕ) → part (p ++ (t ++ q)) (length p) (length t) ≡ t
unfolding part
part-between p t q =
    let h : length p + length t ≤ length (p ++ (t ++ q)) = simp length-append (omega arith) in
    rw (le-leb (length p + length t) (length (p ++ (t ++ q))) h, drop-append_seam p (t ++ q), take-append_seam t q)
