-- Characters never overlap, so whether a place lies in one is a matter of that place alone; and a part of which every place does, and whose two ends are no continuation octets, is well-formed.
use Rattle.std.specs.Prelude.{ℕ, zero, suc, ◌+◌, ◌-◌, ◌<◌, ◌≤◌, ◌≡◌, refl, List, [], ◌∷◌, Bool, true, false, length, drop, take, get_or}
use Rattle.std.proofs.Common.{zero-le, sym, ap, ◌∙◌, subst, not-suc-le-zero, lt_of_not-le, le_antisymm, le-leb, length-take, drop-drop, get_or-drop}
use Rattle.std.proofs.lemmas.Bool.{false≢true}
use Rattle.std.proofs.Math.Decide.{dec_le}
use native.Mathlib.Omega.{arith}
use Rattle.std.proofs.Math.Seq.{take-nil}
use Rattle.octets.specs.Octets.{part}
use Rattle.utf8.specs.Utf8.{size, well_formed}
use Rattle.utf8.specs.CharacterLaws.{continuation, size-next, size-first, size-take}
use Rattle.utf8.specs.WellFormedLaws.{well-none, well-step, well_stop, well-more}

pub drop-take : (k n : ℕ) (l : List ℕ) → drop k (take n l) ≡ take (n - k) (drop k l)
drop-take zero n l = let e : n - 0 ≡ n = omega arith in simp e
drop-take (suc k) zero l = let e : 0 - suc k ≡ 0 = omega arith in simp e
drop-take (suc k) (suc n) [] = sym (take-nil (suc n - suc k))
drop-take (suc k) (suc n) (x ∷ l) = let e : suc n - suc k ≡ n - k = omega arith in simp e (drop-take k n l)

-- a place lies in a character
pub record Covered (s : List ℕ) (q : ℕ) : Type 0 where
  pub start : ℕ
  pub before : start ≤ q
  pub past : q < start + size (drop start s)

-- and so does each from a up to z
pub record Stretch (s : List ℕ) (a z : ℕ) : Type 0 where
  pub each : (q : ℕ) → a ≤ q → q < z → Covered s q

pub stretch_none : (s : List ℕ) (a : ℕ) → Stretch s a a
stretch_none s a = record { each = λ q l h. absurd (omega (arith, l, h)) }

pub stretch_join : (s : List ℕ) (a b z : ℕ) → Stretch s a b → Stretch s b z → Stretch s a z
stretch_join s a b z h k =
    record { each = λ q l m. elim (dec_le b q) [ yes g ↦ k.each q g m | no g ↦ h.each q l (lt_of_not-le g) ] }

pub stretch_one : (s : List ℕ) (a k : ℕ) → size (drop a s) ≡ k → Stretch s a (a + k)
stretch_one s a k e = record { each = λ q l h. record { start = a; before = l; past = omega (arith, e, h) } }

-- no character goes on past a place
pub record Ends (s : List ℕ) (e : ℕ) : Type 0 where
  pub before : (q : ℕ) → q < e → q + size (drop q s) ≤ e

pub ends-start : (s : List ℕ) → Ends s 0
ends-start s = record { before = λ q l. absurd (not-suc-le-zero l) }

-- past a place at which no character stands
pub ends-past : (s : List ℕ) (z : ℕ) → Ends s z → size (drop z s) ≡ 0 → Ends s (z + 1)
ends-past s z h e = record {
  before = λ q l. elim (dec_le z q) [
    | yes g ↦ let d : q ≡ z = omega (arith, l, g) in let k : size (drop q s) ≡ 0 = ap (λ (n : ℕ). size (drop n s)) d ∙ e in omega (arith, d, k)
    | no g ↦ omega (arith, h.before q (lt_of_not-le g))
  ];
}

module _ (s : List ℕ) where
  -- inside a character stand continuation octets, at its start there is none
  pub inner : (a q : ℕ) → a < q → q < a + size (drop a s) → continuation (get_or s q 0) ≡ true
  inner a q l h =
      let e : get_or (drop a s) (q - a) 0 ≡ get_or s q 0 = get_or-drop a s (q - a) 0 ∙ ap (λ (n : ℕ). get_or s n 0) (omega arith) in
      ap continuation (sym e) ∙ size-next (drop a s) (q - a) (omega arith) (omega arith)

  pub lead : (a : ℕ) → 0 < size (drop a s) → continuation (get_or s a 0) ≡ false
  lead a l =
      let e : get_or (drop a s) 0 0 ≡ get_or s a 0 = get_or-drop a s 0 0 ∙ ap (λ (n : ℕ). get_or s n 0) (omega arith) in
      ap continuation (sym e) ∙ size-first (drop a s) l

  never : (x : ℕ) → continuation x ≡ true → continuation x ≡ false → ⊥
  never x e f = false≢true (sym f ∙ e)

  -- a place in a character that is no continuation octet is its start
  pub starts : (q : ℕ) → Covered s q → continuation (get_or s q 0) ≡ false → 0 < size (drop q s)
  starts q c e = elim (dec_le q c.start) [
    | yes g ↦ let d : c.start ≡ q = le_antisymm c.before g in subst (λ (n : ℕ). 0 < size (drop n s)) d (omega (arith, c.past, c.before))
    | no g ↦ absurd (never (get_or s q 0) (inner c.start q (lt_of_not-le g) c.past) e)
  ]

  -- after a character comes no continuation octet, where the next place lies in a character
  next : (a : ℕ) → 0 < size (drop a s) → Covered s (a + size (drop a s)) → continuation (get_or s (a + size (drop a s)) 0) ≡ false
  next a l c = by (continuation (get_or s (a + size (drop a s)) 0)) refl
    where
      z : ℕ
      z = a + size (drop a s)

      wrong : continuation (get_or s z 0) ≡ true → ⊥
      wrong e = elim (dec_le z c.start) [
        | yes g ↦
            let d : c.start ≡ z = le_antisymm c.before g in
            never (get_or s z 0) e (lead z (subst (λ (n : ℕ). 0 < size (drop n s)) d (omega (arith, c.past, c.before))))
        | no g ↦ elim (dec_le c.start a) [
          | yes h ↦ elim (dec_le a c.start) [
            | yes k ↦ let d : c.start ≡ a = le_antisymm h k in absurd (omega (arith, subst (λ (n : ℕ). z < n + size (drop n s)) d c.past))
            | no k ↦ never (get_or s a 0) (inner c.start a (lt_of_not-le k) (omega (arith, c.past))) (lead a l)
          ]
          | no h ↦ never (get_or s c.start 0) (inner a c.start (lt_of_not-le h) (lt_of_not-le g)) (lead c.start (omega (arith, c.past, c.before)))
        ]
      ]

      by : (b : Bool) → continuation (get_or s z 0) ≡ b → b ≡ false
      by true e = absurd (wrong e)
      by false e = refl

  -- a place that is no continuation octet is the end of what stands before it
  pub ends-lead : (e : ℕ) → continuation (get_or s e 0) ≡ false → Ends s e
  ends-lead e d = record { before = λ q l. elim (dec_le (q + size (drop q s)) e) [ yes g ↦ g | no g ↦ absurd (never (get_or s e 0) (inner q e l (lt_of_not-le g)) d) ] }

  -- and so is the end of a character
  pub ends-one : (p r : ℕ) → Ends s p → size (drop p s) ≡ r → Ends s (p + r)
  ends-one p r h e = record {
    before = λ q l. elim (dec_le p q) [
      | yes g ↦ elim (dec_le q p) [
        | yes k ↦ let d : q ≡ p = le_antisymm k g in let z : size (drop q s) ≡ r = ap (λ (n : ℕ). size (drop n s)) d ∙ e in omega (arith, d, z)
        | no k ↦ elim (dec_le (size (drop q s)) 0) [
          | yes z ↦ omega (arith, z, l)
          | no z ↦ absurd (never (get_or s q 0) (inner p q (lt_of_not-le k) (omega (arith, l, e))) (lead q (lt_of_not-le z)))
        ]
      ]
      | no g ↦ omega (arith, h.before q (lt_of_not-le g))
    ];
  }

  -- the law of parts, by the octets that are left
  well-by : (m a e : ℕ) → e - a ≤ m → a ≤ e → e ≤ length s → Stretch s a e → (a < e → 0 < size (drop a s)) → Ends s e
      → well_formed (take (e - a) (drop a s)) ≡ true
  well-by zero a e f l h c b d = well-none _ (simp length-take (omega arith))
  well-by (suc m) a e f l h c b d = elim (dec_le e a) [
    | yes g ↦ well-none _ (simp length-take (omega arith))
    | no g ↦
        let k : 0 < size (drop a s) = b (lt_of_not-le g) in
        let i : a + size (drop a s) ≤ e = d.before a (lt_of_not-le g) in
        step a e k i (well-by m (a + size (drop a s)) e (omega arith) i h (record { each = λ q p r. c.each q (omega arith) r })
        (λ r. starts (a + size (drop a s)) (c.each (a + size (drop a s)) (omega arith) r) (next a k (c.each (a + size (drop a s)) (omega arith) r))) d)
  ]
    where
      step : (a e : ℕ) → 0 < size (drop a s) → a + size (drop a s) ≤ e → well_formed (take (e - (a + size (drop a s))) (drop (a + size (drop a s)) s)) ≡ true
          → well_formed (take (e - a) (drop a s)) ≡ true
      step a e k i w =
          let u : e - a - size (drop a s) ≡ e - (a + size (drop a s)) = omega arith in
          let q : size (take (e - a) (drop a s)) ≡ size (drop a s) = size-take (drop a s) (e - a) k (omega arith) in
          well-step (take (e - a) (drop a s)) (omega arith) ∙ ap (λ (n : ℕ). well_formed (drop n (take (e - a) (drop a s)))) q
          ∙ ap well_formed (drop-take (size (drop a s)) (e - a) (drop a s)) ∙ ap (λ (l : List ℕ). well_formed (take (e - a - size (drop a s)) l)) (drop-drop (size (drop a s)) a s)
          ∙ ap (λ (n : ℕ). well_formed (take n (drop (a + size (drop a s)) s))) u ∙ w

  -- a part that lies in a stretch, and whose ends are no continuation octets, is well-formed
  pub stretch_part : (a z start len : ℕ) → Stretch s a z → a ≤ start → start + len ≤ z → start + len ≤ length s
      → continuation (get_or s start 0) ≡ false → Ends s (start + len) → well_formed (part s start len) ≡ true
  unfolding part
  stretch_part a z start len c p q h d e =
      let n : start + len - start ≡ len = omega arith in
      simp (le-leb (start + len) (length s) h)
      (subst (λ (n : ℕ). well_formed (take n (drop start s)) ≡ true) n
      (well-by len start (start + len) (omega arith) (omega arith) h (record { each = λ k u v. c.each k (omega arith) (omega arith) })
      (λ l. starts start (c.each start p (omega arith)) d) e))

-- every place of a well-formed text lies in a character
pub covers_by : (m : ℕ) (s : List ℕ) (p : ℕ) → length s - p ≤ m → well_formed (drop p s) ≡ true → Stretch s p (length s)
covers_by zero s p f w = record { each = λ q l h. absurd (omega (arith, f, l, h)) }
covers_by (suc m) s p f w = elim (dec_le (length s) p) [
  | yes g ↦ record { each = λ q l h. absurd (omega (arith, g, l, h)) }
  | no g ↦ elim (dec_le (size (drop p s)) 0) [
    | yes k ↦ absurd (false≢true (sym (well_stop s p (lt_of_not-le g) (omega arith)) ∙ w))
    | no k ↦
        let i : 0 < size (drop p s) = lt_of_not-le k in
        stretch_join s p (p + size (drop p s)) (length s) (stretch_one s p (size (drop p s)) refl)
        (covers_by m s (p + size (drop p s)) (omega arith) (sym (well-more s p (size (drop p s)) refl i) ∙ w))
  ]
]

-- "a part of a well-formed text is well-formed where neither its first octet nor the octet after its end is a continuation octet"
pub well-part : (s : List ℕ) (start len : ℕ) → well_formed s ≡ true → start + len ≤ length s → continuation (get_or s start 0) ≡ false → continuation (get_or s (start + len) 0) ≡ false
    → well_formed (part s start len) ≡ true
well-part s start len w h d e = stretch_part s 0 (length s) start len (covers_by (length s) s 0 (omega arith) w) zero-le h h d (ends-lead s (start + len) e)
