-- The cases of the definitions, in the shape in which goals ask for them.
use Prim.Native.Nat.{ℕ, ◌+◌, ◌*◌, ◌-◌, ◌/◌, ◌%◌, ◌^◌, ◌<◌, ◌≤◌, min}
use mathlib.Core.Path.{◌≡◌, refl, sym, ap, ◌∙◌, subst}
use mathlib.Core.List.{List, [], ◌∷◌}
use mathlib.Core.Bool.{Bool, true, false, cond, not, ◌||◌}
use native.Mathlib.Omega.{arith}
use borrow.Author.Tests.{ltb-false, eqb-true, not-false}
use lib.Dec.{ltb, eqb}
use lib.ListN.{length}
use mir.Syntax.{w64}
use mir.Val.{Fits, bool_byte}
use Rattle.octets.specs.Octets.{le32, le64, part, filled}
use Rattle.octets.specs.BufferLaws.{filled_none}
use Rattle.octets.specs.Slices.{nth}
use Rattle.octets.specs.Counts.{one_if, Counted}
use Rattle.octets.proofs.SearchLaws.{first-lowest}
use Rattle.octets.specs.SearchLaws.{Seeking, seek-more}
use Rattle.octets.specs.SkipLaws.{Skipped, skipped_on}
use Rattle.octets.specs.Search.{first, Sought}
use Rattle.octets.specs.Texts.{text_of}
use Rattle.octets.specs.Texts.{Text}
use Rattle.utf8.specs.PlainLaws.{Plain, plain-part}
use Rattle.listing.specs.Listing.{row, most, table, tables_of, numbered, rows, layout}
use Rattle.listing.specs.TableLaws.{tables-numbered}
use Rattle.listing.specs.ListingLaws.{count_most, table-length, table-rows}
use Rattle.listing.specs.Refusals.{Checked, Outcome, refusal, checked, outcome, is_accepted}
use Rattle.listing.specs.RefusalLaws.{accepted-layout}
use Rattle.listing.specs.ReasonLaws.{decide_fault, decide-clean}
use Rattle.listing.specs.FaultLaws.{asked, Passed}
use Rattle.listing.specs.declared.Why.TheVariants as why
use Rattle.listing.specs.declared.Cursor.{Cursor}
use Rattle.listing.specs.declared.Layout.{Layout}
use Rattle.listing.specs.declared.Refusal.{Refusal}
use Rattle.listing.proofs.Outcomes.{handed}
use Rattle.std.specs.Prelude.{Ok, Err, IsErrAnd}
use Rattle.listing.specs.declared.TextFault.{TextFault}
use Rattle.listing.specs.declared.TextOrder.TheVariants.{LengthFirst}
use Rattle.pack.specs.Columns.{entries}
use Rattle.pack.specs.Tables.{with_tiles}
use Rattle.columns.specs.Refusals.{is_short, short_reason, entry_text, faulty_entry, entry_reasons, column_reasons, column_outcome, fill_answer}
use Rattle.columns.specs.ColumnRefusalLaws.{refused-same, column-rest, fill_same, fill_rest}
use Rattle.columns.specs.Entries.{end_of, is_past, is_other, ClearEntry, Cleared, Blocks}
use Rattle.columns.specs.EntryLaws.{entry-asked, clear_entry, clear_read}
use Rattle.columns.specs.Tiles.{column, given, FillOf, read, column_tables}
use Rattle.columns.specs.FillLaws.{FilledAs}

-- ---- entries that a search need not meet
pub other_byte : (c : List ℕ) (v x i d : ℕ) → x ≡ le64 c (8 * i) → d ≡ bool_byte (not (eqb x v)) → d ≡ one_if (is_other c v i)
unfolding is_other one_if
other_byte c v x i d e f = f ∙ by (not (eqb x v)) ∙ ap (λ (y : ℕ). cond (not (eqb y v)) 1 0) e
  where
    by : (b : Bool) → bool_byte b ≡ cond b 1 0
    by true = refl
    by false = refl

pub byte_most : (b : Bool) (d : ℕ) → d ≡ bool_byte b → d ≤ 1
byte_most true d e = omega (arith, e)
byte_most false d e = omega (arith, e)

-- ---- blocks that are passed
-- by a search for the first that is not
pub blocks_by : (says tested : ℕ → Bool → Type 0) (start n m q : ℕ) → start ≤ n → m ≡ (n - start) / 64 → Sought tested 0 m q → ((k : ℕ) → k < m → tested k false → says (start + 64 * k) false) → Blocks says start n (start + 64 * q)
blocks_by says tested start n m q l e h f = record {
  low = omega arith;
  high = omega (arith, h.most);
  denied = λ k a b.
      let j : (k - start) / 64 < q = omega arith in
      record {
        at = start + 64 * ((k - start) / 64);
        low = omega arith;
        high = omega (arith, h.most);
        before = omega arith;
        past = omega arith;
        no = f ((k - start) / 64) (omega (arith, h.most)) (h.below ((k - start) / 64) (omega arith) j);
      };
}

-- where the test says no only of blocks in which nothing passes another
pub blocks_skipped : (p : ℕ → Bool) (says : ℕ → Bool → Type 0) (start n r : ℕ) → Blocks says start n r
    → ((i : ℕ) → start ≤ i → i + 64 ≤ n → says i false → (k : ℕ) → i ≤ k → k < i + 64 → p k ≡ false) → Skipped p start n r
blocks_skipped p says start n r h f =
    record { low = h.low; high = h.high; none = λ k a b. let d = h.denied k a b in f d.at d.low d.high d.no k d.before d.past }

pub alike_block : (c : List ℕ) (v i x : ℕ) → Counted (is_other c v) i (i + 64) x → not (eqb x 0) ≡ false → (k : ℕ) → i ≤ k → k < i + 64 → is_other c v k ≡ false
alike_block c v i x h e = h.none (eqb-true x 0 (not-false _ e))

module _ (names c : List ℕ) (p plain start n i : ℕ) (w : Plain names p) (d : plain ≡ p) (h : Skipped (is_past c plain) start n i) where
  -- what does not end past the ASCII octets is clear
  plain_clear : (j : ℕ) → is_past c plain j ≡ false → ClearEntry names c j
  unfolding is_past
  plain_clear j e = record {
    present = omega (arith, inside, w.small);
    within = omega (arith, inside, w.within);
    well = plain-part names p (le64 c (8 * j) / 4294967296) (le64 c (8 * j) % 4294967296) w inside;
  }
    where
      inside : end_of (le64 c (8 * j)) ≤ p
      inside = omega (arith, ltb-false plain (end_of (le64 c (8 * j))) e, d)

  module _ (e : ℕ) («from» to : Cursor) (s : length names ≤ 1048576) (g : e ≡ min n (i + 128)) (r : «from».row ≡ i) (t : «from».end ≡ e) (q : Passed LengthFirst names c 8 0 1 «from» to) where
    pub inside : to.row ≤ n
    inside = omega (arith, q.within (omega (arith, r, t, g, h.high)), q.end, t, g)

    pub cleared : Cleared names c start n to.row
    cleared = record {
      low = omega (arith, h.low, r, q.after);
      on = λ p f k.
          let u : Seeking (λ j. p (le64 c (8 * j))) i n = skipped_on (λ j. p (le64 c (8 * j))) start n i k (record { low = h.low; high = h.high; none = λ j x y. f j (plain_clear j (h.none j x y)) }) in
          let v : Seeking (λ j. p (le64 c (8 * j))) to.row to.end = q.on (λ j. p (le64 c (8 * j))) (λ j _ x. f j (clear_read names c j s x)) (record { within = omega (arith, r, t, g, h.high); none = subst (λ (j : ℕ). first (λ j. p (le64 c (8 * j))) j ≡ j) (sym r) u.none }) in
          record { within = inside; none = v.none };
    }

    -- and repetitions of the last of them
    pub cleared-alike : (j v x : ℕ) → j ≡ to.row → i < j → v ≡ le64 c (8 * (j - 1)) → Skipped (is_other c v) j n x → Cleared names c start n x
    unfolding is_other
    cleared-alike j v x y l a b = record {
      low = omega (arith, cleared.low, y, b.low);
      on = λ p f k.
          let u : Seeking (λ i. p (le64 c (8 * i))) j n = subst (λ (z : ℕ). Seeking (λ i. p (le64 c (8 * i))) z n) (sym y) (cleared.on p f k) in
          let o : p (le64 c (8 * (j - 1))) ≡ false = (first-lowest (λ i. p (le64 c (8 * i))) j).below (j - 1) (omega (arith, u.none)) in
          skipped_on (λ i. p (le64 c (8 * i))) j n x u (record { low = b.low; high = b.high; none = λ z m w. ap p (eqb-true (le64 c (8 * z)) v (not-false _ (b.none z m w)) ∙ a) ∙ o });
    }

pub skip_on : (fault : TextFault) (names c : List ℕ) (start n r : ℕ) → length names ≤ 1048576 → Cleared names c start n r → Seeking (faulty_entry (asked fault names) c) start n → Seeking (faulty_entry (asked fault names) c) r n
unfolding faulty_entry
skip_on fault names c start n r m h k = h.on (λ v. asked fault names false (entry_text v)) (λ i w. clear_entry fault names c i m w) k

pub skip_next : (fault : TextFault) (names c : List ℕ) (i n r : ℕ) (b : Bool) → length names ≤ 1048576 → Seeking (faulty_entry (asked fault names) c) i n → i < n → b ≡ faulty_entry (asked fault names) c i → b ≡ false
    → Cleared names c (i + 1) n r → Seeking (faulty_entry (asked fault names) c) r n
skip_next fault names c i n r b m k l e f h = skip_on fault names c (i + 1) n r m h (seek-more (faulty_entry (asked fault names) c) i n b k l e f)

pub marked_reasons : (names m c : List ℕ) (n : ℕ) (r : Checked) → m ≡ names → r ≡ checked (entry_reasons m c n) → r ≡ checked (entry_reasons names c n)
marked_reasons names m c n r q e = e ∙ ap (λ (x : List ℕ). checked (entry_reasons x c n)) q

pub entry-by : (fault : TextFault) (names c : List ℕ) (i start len : ℕ) (t : Text) (r : Bool) → length names ≤ 1048576 → start ≡ le32 c (8 * i + 4) → len ≡ le32 c (8 * i) → start < 2 ^ 32 → len < 2 ^ 32
    → t ≡ text_of start len → r ≡ asked fault names false t → r ≡ faulty_entry (asked fault names) c i
entry-by fault names c i start len t r m e f p q g h =
    h ∙ ap (asked fault names false) (g ∙ ap (λ (n : ℕ). text_of n len) e ∙ ap (text_of (le32 c (8 * i + 4))) f) ∙ sym (entry-asked names c i m (omega arith) (omega arith) fault)

-- ---- the fill
module _ (t a b c d : List ℕ) (n : ℕ) (s : Bool) (r : Checked) (q : n ≡ rows 5 t) (e : s ≡ (ltb (length a / 8) n || (ltb (length b / 8) n || (ltb (length c / 8) n || ltb (length d / 8) n)))) where
  short-is : s ≡ is_short (rows 5 t) (a ∷ b ∷ c ∷ d ∷ [])
  unfolding is_short nth entries
  short-is = e ∙ ap (λ (m : ℕ). ltb (length a / 8) m || (ltb (length b / 8) m || (ltb (length c / 8) m || ltb (length d / 8) m))) q

  pub fill_short : s ≡ true → r ≡ Err (refusal why.Columns 5 0) → FilledAs t (a ∷ b ∷ c ∷ d ∷ []) r (a ∷ b ∷ c ∷ d ∷ [])
  unfolding checked nth
  fill_short f g = subst (λ (x : Checked). FilledAs t (a ∷ b ∷ c ∷ d ∷ []) x (a ∷ b ∷ c ∷ d ∷ [])) (sym g) (record {
    answer = let u : is_short (rows 5 t) (a ∷ b ∷ c ∷ d ∷ []) ≡ true = sym short-is ∙ f in simp u;
    firsts = filled_none a;
    zooms = filled_none b;
    columns = filled_none c;
    rows = filled_none d;
  })

  pub fill_whole : (a₁ b₁ c₁ d₁ : List ℕ) → s ≡ false → r ≡ Ok tt → a₁ ≡ filled (column t 0) a → b₁ ≡ filled (column t 1) b → c₁ ≡ filled (column t 2) c → d₁ ≡ filled (column t 3) d
      → FilledAs t (a ∷ b ∷ c ∷ d ∷ []) r (a₁ ∷ b₁ ∷ c₁ ∷ d₁ ∷ [])
  unfolding checked nth
  fill_whole a₁ b₁ c₁ d₁ f g u₀ u₁ u₂ u₃ = subst (λ (x : Checked). FilledAs t (a ∷ b ∷ c ∷ d ∷ []) x (a₁ ∷ b₁ ∷ c₁ ∷ d₁ ∷ [])) (sym g) (record {
    answer = let u : is_short (rows 5 t) (a ∷ b ∷ c ∷ d ∷ []) ≡ false = sym short-is ∙ f in simp u;
    firsts = u₀;
    zooms = u₁;
    columns = u₂;
    rows = u₃;
  })

-- nothing is written where the listing is refused
pub fill_refused : (s a b c d : List ℕ) (o : Outcome) (r : Checked) (x : Refusal) → o ≡ outcome s → o ≡ Err x → IsErrAnd r (λ e. e ≡ x) → FillOf s (a ∷ b ∷ c ∷ d ∷ []) r (a ∷ b ∷ c ∷ d ∷ [])
unfolding nth
fill_refused s a b c d o r x e f g = record {
  answer = handed x r g ∙ sym u;
  firsts = simp u (filled_none a);
  zooms = simp u (filled_none b);
  columns = simp u (filled_none c);
  rows = simp u (filled_none d);
}
  where
    u : fill_answer s (a ∷ b ∷ c ∷ d ∷ []) ≡ Err x
    u = fill_same s (a ∷ b ∷ c ∷ d ∷ []) x (sym e ∙ f)

pub fill_accepted : (s t : List ℕ) (bs cs : List (List ℕ)) (o : Outcome) (l : Layout) (r : Checked) → o ≡ outcome s → o ≡ Ok l → t ≡ table s 5 → FilledAs t bs r cs → FillOf s bs r cs
fill_accepted s t bs cs o l r e f q h = record {
  answer = u;
  firsts = h.firsts ∙ same 0 (nth bs 0);
  zooms = h.zooms ∙ same 1 (nth bs 1);
  columns = h.columns ∙ same 2 (nth bs 2);
  rows = h.rows ∙ same 3 (nth bs 3);
}
  where
    u : r ≡ fill_answer s bs
    u = h.answer ∙ ap (λ (x : List ℕ). checked (short_reason (rows 5 x) bs ∷ [])) q ∙ sym (fill_rest s bs (ap is_accepted (sym e ∙ f)))

    same : (k : ℕ) (b : List ℕ) → filled (given r t k) b ≡ filled (given (fill_answer s bs) (table s 5) k) b
    same k b = ap (λ (x : Checked). filled (given x t k) b) u ∙ ap (λ (x : List ℕ). filled (given (fill_answer s bs) x k) b) q

-- ---- the check
module _ (t names a b c d : List ℕ) (cs : List (List ℕ)) (n : ℕ) (s : Bool) (r : Checked) (q : n ≡ rows 5 t) (e₀ : a ≡ nth cs 0) (e₁ : b ≡ nth cs 1) (e₂ : c ≡ nth cs 2) (e₃ : d ≡ nth cs 3)
    (e : s ≡ (ltb (length a / 8) n || (ltb (length b / 8) n || (ltb (length c / 8) n || ltb (length d / 8) n)))) where
  short-of : s ≡ is_short (rows 5 t) cs
  unfolding is_short entries
  short-of = e ∙ rw (e₀, e₁, e₂, e₃, q)

  pub check_short : s ≡ true → r ≡ Err (refusal why.Columns 5 0) → r ≡ checked (column_reasons t names cs)
  unfolding checked column_reasons
  check_short f g = let u : is_short (rows 5 t) cs ≡ true = sym short-of ∙ f in g ∙ simp u

  pub check_long : s ≡ false → r ≡ checked (entry_reasons names a n) → r ≡ checked (column_reasons t names cs)
  unfolding checked column_reasons
  check_long f g =
      let u : is_short (rows 5 t) cs ≡ false = sym short-of ∙ f in
      g ∙ ap (λ (x : List ℕ). checked (entry_reasons names x n)) e₀ ∙ ap (λ (m : ℕ). checked (entry_reasons names (nth cs 0) m)) q ∙ simp u

module _ (s : List ℕ) (o : Outcome) (e : o ≡ outcome s) where
  pub names-most : (l : Layout) (names : List ℕ) → o ≡ Ok l → names ≡ table s 7 → length names ≤ 1048576
  unfolding row most
  names-most l names f q = let a : is_accepted (outcome s) ≡ true = ap is_accepted (sym e ∙ f) in omega (arith, ap length q, table-length s a 7 (omega arith), count_most s a 7 (omega arith) (omega arith))

  pub tiles-most : (l : Layout) (t : List ℕ) → o ≡ Ok l → t ≡ table s 5 → rows 5 t ≤ 262144
  unfolding most
  tiles-most l t f q = let a : is_accepted (outcome s) ≡ true = ap is_accepted (sym e ∙ f) in omega (arith, ap (rows 5) q, table-rows s a 5 (omega arith) (omega arith), count_most s a 5 (omega arith) (omega arith))

  module _ (cs : List (List ℕ)) (r : Outcome) where
    pub accept_refused : (x : Refusal) → o ≡ Err x → IsErrAnd r (λ e. e ≡ x) → r ≡ column_outcome s cs
    accept_refused x f g = handed x r g ∙ sym f ∙ e ∙ sym (refused-same s cs (ap is_accepted (sym e ∙ f)))

    module _ (l : Layout) (f : o ≡ Ok l) (t names : List ℕ) (p : t ≡ table s 5) (q : names ≡ table s 7) (c : Checked) (h : c ≡ checked (column_reasons t names cs)) where
      said : checked (column_reasons (table s 5) (table s 7) cs) ≡ c
      said = ap (λ (x : List ℕ). checked (column_reasons x (table s 7) cs)) (sym p) ∙ ap (λ (x : List ℕ). checked (column_reasons t x cs)) (sym q) ∙ sym h

      pub accept_fault : (x : Refusal) → c ≡ Err x → IsErrAnd r (λ e. e ≡ x) → r ≡ column_outcome s cs
      accept_fault x g w = handed x r w ∙ sym (column-rest s cs (ap is_accepted (sym e ∙ f)) ∙ decide_fault Err (column_reasons (table s 5) (table s 7) cs) (Ok (layout s)) x (said ∙ g))

      pub accept_clean : c ≡ Ok tt → r ≡ Ok l → r ≡ column_outcome s cs
      accept_clean g w = w ∙ ap Ok (accepted-layout s l (sym e ∙ f)) ∙ sym (column-rest s cs (ap is_accepted (sym e ∙ f)) ∙ decide-clean Err (column_reasons (table s 5) (table s 7) cs) (Ok (layout s)) (said ∙ g))

-- ---- the cut
pub octets-fit : (t : List ℕ) (n : ℕ) → n ≡ rows 5 t → length t < 2 ^ 64 → Fits w64 (8 * n)
unfolding rows row
octets-fit t n e l = record { fits = omega arith }

pub cut_columns : (s t p₀ p₁ p₂ p₃ : List ℕ) (ts cs us : List (List ℕ)) (n octets : ℕ) → ts ≡ tables_of s → t ≡ numbered ts 5 → n ≡ rows 5 t → octets ≡ 8 * n → p₀ ≡ part (nth cs 0) 0 octets → p₁ ≡ part (nth cs 1) 0 octets
    → p₂ ≡ part (nth cs 2) 0 octets → p₃ ≡ part (nth cs 3) 0 octets → us ≡ with_tiles ts p₀ p₁ p₂ p₃ → us ≡ column_tables s cs
unfolding column_tables read
cut_columns s t p₀ p₁ p₂ p₃ ts cs us n octets e f g o b₀ b₁ b₂ b₃ h =
    let q : n ≡ rows 5 (table s 5) = g ∙ ap (rows 5) (f ∙ ap (λ (x : List (List ℕ)). numbered x 5) e ∙ ap (λ (u : ℕ → List ℕ). u 5) (tables-numbered s)) in
    h ∙ rw (e, b₀, b₁, b₂, b₃, o, q)
