-- Tiles that are passed by column and row are not at the address.
use Rattle.std.specs.Prelude.{ℕ, ◌+◌, ◌-◌, ◌*◌, ◌/◌, ◌<◌, ◌≤◌, min, ◌≡◌, refl, Bool, true, false, ◌&&◌, ℤ}
use Rattle.std.proofs.Common.{zero-le, subst, sym, ◌∙◌, arith, lt-ltb}
use Rattle.std.proofs.Math.Path.{ap}
use mathlib.Core.List.{List}
use Rattle.std.proofs.Math.ListN.{length}
use Rattle.octets.specs.Counts.{one_if, Counted}
use Rattle.octets.specs.Numbers.{signed, eq_z}
use Rattle.octets.specs.Search.{Sought}
use Rattle.octets.specs.SearchLaws.{Seeking, seek-start, seek-more}
use Rattle.octets.specs.SkipLaws.{Skipped, skipped_join, skipped_on, side}
use Rattle.octets.specs.Slices.{nth}
use Rattle.octets.specs.Texts.{same}
use Rattle.pack.specs.Columns.{entries, entry_at, entry_count}
use Rattle.pack.specs.Rows.{Tile}
use Rattle.pack.specs.Tables.{tile_at, tile_row, entry_row, tile_count, tile_in, tile_of, tiles_in}
use Rattle.pack.specs.declared.Form.{Form}
use Rattle.pack.specs.declared.Form.TheVariants as form
use Rattle.rules.specs.Tiles.{at_address}
use Rattle.seek.specs.Scans.{is_entry, is_row, is_place}

-- ---- a search for a number of which something is counted passes the others
none_counted : (b : Bool) → one_if b ≡ 0 → b ≡ false
unfolding one_if
none_counted true e = absurd (omega (arith, e))
none_counted false e = refl

pub counted_nothing : (p : ℕ → Bool) (i j c : ℕ) → Counted p i j c → c ≡ 0 → Counted p i j 0
counted_nothing p i j c h z = subst (λ (d : ℕ). Counted p i j d) z h

module _ (p : ℕ → Bool) (says : ℕ → Bool → Type 0) (start n : ℕ) where
  pub skipped_by : (i r : ℕ) → Skipped p start n i → ((k : ℕ) → i ≤ k → k < n → says k false → one_if (p k) ≡ 0) → Sought says i n r → Skipped p start n r
  skipped_by i r h f s = skipped_join p start n i r h (side r n s.from (λ m. omega (arith, h.high))) s.most (λ k a b. none_counted (p k) (f k a (omega (arith, s.most)) (s.below k a b)))

  -- and one of eights those in each
  pub skipped_eights : (r : ℕ) → start ≤ n → ((e : ℕ) → e < (n - start) / 8 → says e false → Counted p (start + 8 * e) (start + 8 * e + 8) 0) → Sought says 0 ((n - start) / 8) r → Skipped p start n (start + 8 * r)
  skipped_eights r l f s = record {
    low = omega arith;
    high = omega (arith, s.most);
    none = λ k a b. (f ((k - start) / 8) (omega (arith, s.most)) (s.below ((k - start) / 8) zero-le (omega arith))).none refl k (omega arith) (omega arith);
  }

-- ---- a pass by the numbers of one form is a pass by tiles
skipped_as : (p q : ℕ → Bool) (start n r : ℕ) → Skipped p start n r → ((k : ℕ) → k < n → p k ≡ q k) → Skipped q start n r
skipped_as p q start n r h e = record { low = h.low; high = h.high; none = λ k a b. sym (e k (omega (arith, h.high))) ∙ h.none k a b }

module _ (ts : List (List ℕ)) (x y : ℕ) where
  row-place : (k : ℕ) → k < length (nth ts 4) / 32 → is_row (nth ts 4) x y k ≡ is_place form.Rows ts x y k
  unfolding is_row is_place tile_in tile_row tile_at
  row-place k l = simp (lt-ltb k (length (nth ts 4) / 32) l)

  entry_place : (k : ℕ) → k < entry_count (nth ts 4) (nth ts 7) (nth ts 8) (nth ts 9) → is_entry (nth ts 8) (nth ts 9) x y k ≡ is_place form.Columns ts x y k
  unfolding is_entry is_place tile_in entry_row entry_at
  entry_place k l = simp (lt-ltb k (entry_count (nth ts 4) (nth ts 7) (nth ts 8) (nth ts 9)) l)

  pub pass_rows : (f : Form) (t : List ℕ) (start n r : ℕ) → f ≡ form.Rows → t ≡ nth ts 4 → n ≤ tile_count f ts → Skipped (is_row t x y) start n r → Skipped (is_place f ts x y) start n r
  unfolding tile_count
  pass_rows f t start n r q e l h =
      skipped_as (is_row t x y) (is_place f ts x y) start n r h
      (λ k b. ap (λ (u : List ℕ). is_row u x y k) e ∙ row-place k (omega (arith, ap (λ (g : Form). tile_count g ts) q)) ∙ ap (λ (g : Form). is_place g ts x y k) (sym q))

  pub pass_entries : (f : Form) (c d : List ℕ) (start n r : ℕ) → f ≡ form.Columns → c ≡ nth ts 8 → d ≡ nth ts 9 → n ≤ tile_count f ts → Skipped (is_entry c d x y) start n r → Skipped (is_place f ts x y) start n r
  unfolding tile_count
  pass_entries f c d start n r q e g l h =
      skipped_as (is_entry c d x y) (is_place f ts x y) start n r h
      (λ k b. ap (λ (u : List ℕ). is_entry u d x y k) e ∙ ap (λ (u : List ℕ). is_entry (nth ts 8) u x y k) g ∙ entry_place k (omega (arith, ap (λ (o : Form). tile_count o ts) q)) ∙ ap (λ (o : Form). is_place o ts x y k) (sym q))

-- there is room for what is passed
module _ (ts : List (List ℕ)) (f : Form) (n : ℕ) (l : n ≤ tile_count f ts) where
  pub room-rows : (t : List ℕ) → f ≡ form.Rows → t ≡ nth ts 4 → 32 * n ≤ length t
  unfolding tile_count
  room-rows t q e = omega (arith, l, ap length e, ap (λ (g : Form). tile_count g ts) q)

  pub room-columns : (c : List ℕ) → f ≡ form.Columns → c ≡ nth ts 8 → 8 * n ≤ length c
  unfolding tile_count entry_count entries
  room-columns c q e = omega (arith, l, ap length e, ap (λ (g : Form). tile_count g ts) q)

  pub room-lines : (d : List ℕ) → f ≡ form.Columns → d ≡ nth ts 9 → 8 * n ≤ length d
  unfolding tile_count entry_count entries
  room-lines d q e = omega (arith, l, ap length e, ap (λ (g : Form). tile_count g ts) q)

-- where fewer tiles are there than are asked for
pub pass_fewer : (p : ℕ → Bool) (start n m k r : ℕ) → m ≡ min n k → Skipped p start m r → Skipped p start n r
pass_fewer p start n m k r e h = record { low = h.low; high = omega (arith, e, h.high); none = h.none }

-- ---- what is passed is not at the address
elsewhere : (x : List ℕ) (z c r : ℤ) (q : Tile) → (eq_z c q.column && eq_z r q.row) ≡ false → at_address x z c r q ≡ false
unfolding at_address
elsewhere x z c r q e = simp e (by (same x q.name) (eq_z z q.zoom))
  where
    by : (a b : Bool) → (a && (b && false)) ≡ false
    by true true = refl
    by true false = refl
    by false b = refl

module _ (f : Form) (ts : List (List ℕ)) (names x : List ℕ) (z : ℤ) (c r : ℕ) where
  abbrev here : ℕ → Bool
  here j = at_address x z (signed c) (signed r) ((tiles_in f ts names).row j)

  passed_here : (start n i : ℕ) → Skipped (is_place f ts c r) start n i → Skipped here start n i
  unfolding is_place tile_of
  passed_here start n i h = record { low = h.low; high = h.high; none = λ k a b. elsewhere x z (signed c) (signed r) ((tiles_in f ts names).row k) (h.none k a b) }

  pub at-start : (n i : ℕ) → Skipped (is_place f ts c r) 0 n i → Seeking here i n
  at-start n i h = skipped_on here 0 n i (seek-start here n) (passed_here 0 n i h)

  pub at_more : (n i j : ℕ) (b : Bool) → Seeking here i n → i < n → b ≡ here i → b ≡ false → Skipped (is_place f ts c r) (i + 1) n j → Seeking here j n
  at_more n i j b s l e g h = skipped_on here (i + 1) n j (seek-more here i n b s l e g) (passed_here (i + 1) n j h)
