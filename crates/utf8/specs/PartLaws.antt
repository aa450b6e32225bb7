-- A part and the whole: each place of a well-formed part lies in a character of the whole, and two well-formed parts, one after the other, are one.
use Rattle.std.specs.Prelude.{ℕ, zero, suc, ◌+◌, ◌-◌, ◌<◌, ◌≤◌, ◌≡◌, refl, List, [], ◌∷◌, ◌++◌, Bool, true, false, cond, length, drop, take}
use Rattle.std.proofs.Common.{zero-le, sym, ap, ◌∙◌, le_refl, not-suc-le-zero, lt_of_not-le, arith, le-leb, length-drop, length-take, drop-drop, take-add}
use Rattle.std.proofs.lemmas.Bool.{false≢true}
use Rattle.std.proofs.Math.Bool.{and-eq-true_iff}
use Rattle.std.proofs.Math.Decide.{dec_le}
use Rattle.std.proofs.Math.Seq.{take-append_seam}
use Rattle.std.proofs.lemmas.List.{drop-append-le}
use Rattle.octets.specs.Octets.{part}
use Rattle.utf8.specs.Utf8.{in_range, table37, fits, size, well_formed}
use Rattle.utf8.specs.CharacterLaws.{size-length, one, two, three-e0, three_e1, three-ed, three_ee, four-f0, four_f1, four-f4, none-low, none-high}
use Rattle.utf8.specs.WellFormedLaws.{well_stuck, well-step}
use Rattle.utf8.specs.CoverLaws.{Covered, Stretch, drop-take, covers_by}

-- a first octet decides what is asked of the next ones
record Asks (x : ℕ) : Type 0 where
  next : List (ℕ × ℕ)
  octets : ℕ
  all : (s : List ℕ) → size (x ∷ s) ≡ cond (fits next s) octets 0

asks : (x : ℕ) → Asks x
asks x = elim (dec_le x 0x7F) [
  | yes a ↦ record { next = []; octets = 1; all = λ s. one x s zero-le a }
  | no a ↦ elim (dec_le x 0xC1) [
    | yes b ↦ record { next = []; octets = 0; all = λ s. none-low x s (lt_of_not-le a) b }
    | no b ↦ elim (dec_le x 0xDF) [
      | yes c ↦ record { next = (0x80, 0xBF) ∷ []; octets = 2; all = λ s. two x s (lt_of_not-le b) c }
      | no c ↦ elim (dec_le x 0xE0) [
        | yes d ↦ record { next = (0xA0, 0xBF) ∷ (0x80, 0xBF) ∷ []; octets = 3; all = λ s. three-e0 x s (lt_of_not-le c) d }
        | no d ↦ elim (dec_le x 0xEC) [
          | yes e ↦ record { next = (0x80, 0xBF) ∷ (0x80, 0xBF) ∷ []; octets = 3; all = λ s. three_e1 x s (lt_of_not-le d) e }
          | no e ↦ elim (dec_le x 0xED) [
            | yes f ↦ record { next = (0x80, 0x9F) ∷ (0x80, 0xBF) ∷ []; octets = 3; all = λ s. three-ed x s (lt_of_not-le e) f }
            | no f ↦ elim (dec_le x 0xEF) [
              | yes g ↦ record { next = (0x80, 0xBF) ∷ (0x80, 0xBF) ∷ []; octets = 3; all = λ s. three_ee x s (lt_of_not-le f) g }
              | no g ↦ elim (dec_le x 0xF0) [
                | yes h ↦ record { next = (0x90, 0xBF) ∷ (0x80, 0xBF) ∷ (0x80, 0xBF) ∷ []; octets = 4; all = λ s. four-f0 x s (lt_of_not-le g) h }
                | no h ↦ elim (dec_le x 0xF3) [
                  | yes i ↦ record { next = (0x80, 0xBF) ∷ (0x80, 0xBF) ∷ (0x80, 0xBF) ∷ []; octets = 4; all = λ s. four_f1 x s (lt_of_not-le h) i }
                  | no i ↦ elim (dec_le x 0xF4) [
                    | yes j ↦ record { next = (0x80, 0x8F) ∷ (0x80, 0xBF) ∷ (0x80, 0xBF) ∷ []; octets = 4; all = λ s. four-f4 x s (lt_of_not-le i) j }
                    | no j ↦ record { next = []; octets = 0; all = λ s. none-high x s (lt_of_not-le j) }
                  ]
                ]
              ]
            ]
          ]
        ]
      ]
    ]
  ]
]

fits_whole : (rs : List (ℕ × ℕ)) (s : List ℕ) (m : ℕ) → fits rs (take m s) ≡ true → fits rs s ≡ true
fits_whole [] s m e = refl
fits_whole (r ∷ rs) s zero e = absurd (false≢true e)
fits_whole (r ∷ rs) [] (suc m) e = absurd (false≢true e)
fits_whole (r ∷ rs) (x ∷ s) (suc m) e =
    let a = (and-eq-true_iff (in_range r.0 r.1 x) (fits rs (take m s))).0 e in
    (and-eq-true_iff (in_range r.0 r.1 x) (fits rs s)).1 (a.0, fits_whole rs s m a.1)

size_none : size [] ≡ 0
unfolding size table37
size_none = refl

whole_by : (x : ℕ) (s : List ℕ) (m : ℕ) (b : Bool) → fits (asks x).next (take m s) ≡ b → 0 < size (x ∷ take m s) → size (x ∷ s) ≡ size (x ∷ take m s)
whole_by x s m true e l =
    let f : fits (asks x).next s ≡ true = fits_whole (asks x).next s m e in
    let u : size (x ∷ s) ≡ (asks x).octets = (asks x).all s ∙ simp f in
    let v : size (x ∷ take m s) ≡ (asks x).octets = (asks x).all (take m s) ∙ simp e in
    u ∙ sym v
whole_by x s m false e l = let z : size (x ∷ take m s) ≡ 0 = (asks x).all (take m s) ∙ simp e in absurd (omega arith)

-- a character of the first m octets is one of the whole
pub size-whole : (s : List ℕ) (m : ℕ) → 0 < size (take m s) → size s ≡ size (take m s)
size-whole s zero l = absurd (omega (arith, size_none))
size-whole [] (suc m) l = refl
size-whole (x ∷ s) (suc m) l = whole_by x s m (fits (asks x).next (take m s)) refl l

-- each place of a well-formed part lies in a character of the whole: so every well-formed text lies in one stretch
pub part_stretch : (s : List ℕ) (a n : ℕ) → a + n ≤ length s → well_formed (take n (drop a s)) ≡ true → Stretch s a (a + n)
part_stretch s a n h w = record { each = λ q l m. by q l (inside.each (q - a) zero-le (simp (length-take, length-drop) (omega arith))) }
  where
    t : List ℕ
    t = take n (drop a s)

    inside : Stretch t 0 (length t)
    inside = covers_by (length t) t 0 (omega arith) w

    by : (q : ℕ) → a ≤ q → Covered t (q - a) → Covered s q
    by q l c =
        let e : drop c.start t ≡ take (n - c.start) (drop (a + c.start) s) = drop-take c.start n (drop a s) ∙ ap (take (n - c.start)) (drop-drop c.start a s) in
        let z : size (drop c.start t) ≡ size (take (n - c.start) (drop (a + c.start) s)) = ap size e in
        let k : size (drop (a + c.start) s) ≡ size (take (n - c.start) (drop (a + c.start) s)) = size-whole (drop (a + c.start) s) (n - c.start) (omega (arith, c.before, c.past, z)) in
        record { start = a + c.start; before = omega (arith, c.before); past = omega (arith, c.past, z, k) }

-- ---- one part after the other
append-by : (m : ℕ) (x y : List ℕ) → length x ≤ m → well_formed x ≡ true → well_formed y ≡ true → well_formed (x ++ y) ≡ true
append-by zero [] y l e f = f
append-by zero (a ∷ x) y l e f = absurd (not-suc-le-zero l)
append-by (suc m) [] y l e f = f
append-by (suc m) (a ∷ x) y l e f = elim (dec_le (size (a ∷ x)) 0) [
  | yes h ↦ absurd (false≢true (sym (well_stuck (a ∷ x) (omega arith) (omega (arith, h))) ∙ e))
  | no h ↦
      let k : 0 < size (a ∷ x) = lt_of_not-le h in
      let t : take (length (a ∷ x)) ((a ∷ x) ++ y) ≡ a ∷ x = take-append_seam (a ∷ x) y in
      let u : size (take (length (a ∷ x)) ((a ∷ x) ++ y)) ≡ size (a ∷ x) = ap size t in
      let q : size ((a ∷ x) ++ y) ≡ size (a ∷ x) = size-whole ((a ∷ x) ++ y) (length (a ∷ x)) (omega (arith, u)) ∙ u in
      let b : size (a ∷ x) ≤ length (a ∷ x) = size-length (a ∷ x) in
      well-step ((a ∷ x) ++ y) (omega (arith, q)) ∙ ap (λ (n : ℕ). well_formed (drop n ((a ∷ x) ++ y))) q
      ∙ ap well_formed (drop-append-le (size (a ∷ x)) (a ∷ x) y b)
      ∙ append-by m (drop (size (a ∷ x)) (a ∷ x)) y (omega (arith, length-drop (size (a ∷ x)) (a ∷ x))) (sym (well-step (a ∷ x) k) ∙ e) f
]

pub part_join : (s : List ℕ) (a m n : ℕ) → a + (m + n) ≤ length s → well_formed (part s a m) ≡ true → well_formed (part s (a + m) n) ≡ true → well_formed (part s a (m + n)) ≡ true
unfolding part
part_join s a m n h e f =
    simp (le-leb (a + (m + n)) (length s) h)
    (ap well_formed (take-add m n (drop a s) ∙ ap (λ (l : List ℕ). take m (drop a s) ++ take n l) (drop-drop m a s))
    ∙ append-by (length (take m (drop a s))) (take m (drop a s)) (take n (drop (a + m) s)) (le_refl _)
    (simp (le-leb (a + m) (length s) (omega arith)) at e) (simp (le-leb (a + m + n) (length s) (omega arith)) at f))
