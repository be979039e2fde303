-- The tank's lines lie apart: a tick that passes the state test works, in each, on a place of its own. So a line is read as it was before the stores in the
-- others, and what a step of comb i or all-pass i leaves is what the page says. Assumes nothing.
use Rattle.std.proofs.Common.{◌≡◌, ℕ, zero, suc, ◌+◌, ◌*◌, ◌<◌, ◌≤◌, ◌≢◌, List, [], ◌∷◌, ◌++◌, length, get_or, set, take, drop, sym, refl, ap, ◌∙◌, subst, add-one, arith, get_or-set_other}
use Rattle.std.proofs.lemmas.List.{set_comm}
use borrow.Rule.Slice.PartMut.{put_mid}
use lib.Ieee.{Float, nan, binary64, add}
use Rattle.common.specs.Line.{table}
use Rattle.common.proofs.Slices.{part-get_or, part-set}
use Rattle.common.proofs.Tables.{get_or-table, table-ext, tabled, tabled-next}
use Rattle.effect.specs.Effect.{Write, laid}
use Rattle.effect.proofs.Memory.{laid-append}
use Rattle.reverb.specs.declared.filters.Combed.{Combed}
use Rattle.reverb.specs.declared.filters.Passed.{Passed}
use Rattle.reverb.specs.Freeverb.{comb_store, comb_fed, combed, comb_line, pass_output, pass_fed, passed, pass_line}
use Rattle.reverb.specs.Tunings.{Side, left, right, comb_size, comb_most, allpass_size, allpass_most}
use Rattle.reverb.specs.Tank.{Lines, InLines, comb_lines, allpass_lines, place_of, held, by_sides, combs_held, sum_of, comb_stored, comb_write, allpasses_held, passed_on, allpass_write}
use Rattle.reverb.proofs.Lists.{below_at, below-long}

-- an entry that no turn stored yet
pub unmoved : {A : Type 0} (f : ℕ → A) (before : List A) (i : ℕ) (z : A) {now : List A} → now ≡ tabled f i before → i < length before → get_or now i z ≡ get_or before i z
unmoved {A} f before i z e h = ap (λ (d : List A). get_or d i z) e ∙ tabled-next f i before z h

-- ---- writes one after the other

pub table-last : {A : Type 0} (f : ℕ → A) (n : ℕ) → table f (suc n) ≡ table f n ++ (f n ∷ [])
unfolding table
table-last f zero = refl
table-last {A} f (suc n) = ap (λ (l : List A). f 0 ∷ l) (table-last (λ i. f (suc i)) n)

-- those of one line more
laid-more : (f : ℕ → Write) (n : ℕ) (m : List Float) → laid (table f (n + 1)) m ≡ set (laid (table f n) m) (f n).place (f n).value
laid-more f n m = rw (add-one n, table-last f n) (laid-append (table f n) (f n ∷ []) m)

-- they leave every other place
pub laid-beside : (f : ℕ → Write) (n : ℕ) (m : List Float) (p : ℕ) (z : Float) → ((k : ℕ) → k < n → p ≢ (f k).place) → get_or (laid (table f n) m) p z ≡ get_or m p z
unfolding table
laid-beside f zero m p z h = refl
laid-beside f (suc n) m p z h =
    laid-beside (λ k. f (suc k)) n (set m (f 0).place (f 0).value) p z (λ k l. h (suc k) (omega arith))
    ∙ get_or-set_other m (f 0).place p (f 0).value z (h 0 (omega arith))

-- and a write to another place may come before them or after
laid-swapped : (f : ℕ → Write) (n : ℕ) (m : List Float) (p : ℕ) (v : Float) → ((k : ℕ) → k < n → p ≢ (f k).place) → laid (table f n) (set m p v) ≡ set (laid (table f n) m) p v
unfolding table
laid-swapped f zero m p v h = refl
laid-swapped f (suc n) m p v h =
    ap (laid (table (λ k. f (suc k)) n)) (set_comm m p (f 0).place v (f 0).value (h 0 (omega arith)))
    ∙ laid-swapped (λ k. f (suc k)) n (set m (f 0).place (f 0).value) p v (λ k l. h (suc k) (omega arith))

-- a turn, after those of the lines before; its place is another than theirs
module _ (f : ℕ → Write) (m : List Float) (i : ℕ) (apart : (k : ℕ) → k < i → (f i).place ≢ (f k).place) (m' : List Float) (before : m' ≡ laid (table f i) m) where
  pub first-held : get_or m' (f i).place nan ≡ get_or m (f i).place nan
  first-held = rw before (laid-beside f i m (f i).place nan apart)

  pub turned : {after : List Float} → after ≡ set m' (f i).place (f i).value → after ≡ laid (table f (i + 1)) m
  turned e = e ∙ ap (λ (l : List Float). set l (f i).place (f i).value) before ∙ sym (laid-more f i m)

-- all on the left, and then all on the right, is line by line left and right, where no line's left place is an earlier line's right one
by-sides-more : (f : ℕ → Side → Write) (n : ℕ) (m : List Float)
    → set (set (laid (by_sides f n) m) (f n left).place (f n left).value) (f n right).place (f n right).value ≡ laid (by_sides f (n + 1)) m
unfolding by_sides
by-sides-more f n m = rw (add-one n) (sym (laid-append (by_sides f n) (f n left ∷ f n right ∷ []) m))

pub sides-laid : (f : ℕ → Side → Write) (n : ℕ) (m : List Float) → ((i k : ℕ) → i < n → k < i → (f i left).place ≢ (f k right).place)
    → laid (table (λ i. f i right) n) (laid (table (λ i. f i left) n) m) ≡ laid (by_sides f n) m
unfolding table by_sides
sides-laid f zero m h = refl
sides-laid f (suc n) m h =
    let l : ℕ → Write = λ i. f i left in
    let r : ℕ → Write = λ i. f i right in
    let before = sides-laid f n m (λ i k a b. h i k (omega arith) b) in
    subst (λ (k : ℕ). laid (table r k) (laid (table l k) m) ≡ laid (by_sides f k) m) (add-one n)
    (laid-more r n (laid (table l (n + 1)) m)
    ∙ (λ j. set (laid (table r n) (laid-more l n m j)) (r n).place (r n).value)
    ∙ ap (λ (d : List Float). set d (r n).place (r n).value) (laid-swapped r n (laid (table l n) m) (l n).place (l n).value (λ k b. h n k (omega arith) b))
    ∙ (λ j. set (set (before j) (l n).place (l n).value) (r n).place (r n).value)
    ∙ by-sides-more f n m)

-- ---- where the places lie

module _ {count most : ℕ} {l : Lines} (f : InLines count most l) where
  pub line-below : (i : ℕ) → i < count → (get_or l.positions i 0 < get_or l.lengths i 0) × (get_or l.lengths i 0 ≤ most)
  line-below i h = (below_at l.positions l.lengths i f.inside (omega (arith, f.counted)), f.capped i)

  pub lines_long : length l.positions ≡ count
  lines_long = below-long l.positions l.lengths f.inside ∙ f.counted

-- each comb's place is its own, among those of the side's combs, and likewise the all-passes
module _ (o : ℕ) (w n : List ℕ) (f : InLines 8 comb_most (comb_lines o w n)) where
  pub comb-place : (i : ℕ) → i < 8 → (o ≤ place_of (comb_lines o w n) i) × (place_of (comb_lines o w n) i < o + 8 * comb_size)
  comb-place i h = (omega arith, omega (arith, line-below f i h))

  pub comb-apart : (i k : ℕ) → i < 8 → k < i → place_of (comb_lines o w n) i ≢ place_of (comb_lines o w n) k
  comb-apart i k h g = omega (arith, line-below f i h, line-below f k (omega arith))

module _ (o : ℕ) (w n : List ℕ) (f : InLines 4 allpass_most (allpass_lines o w n)) where
  pub allpass-place : (i : ℕ) → i < 4 → (o ≤ place_of (allpass_lines o w n) i) × (place_of (allpass_lines o w n) i < o + 4 * allpass_size)
  allpass-place i h = (omega arith, omega (arith, line-below f i h))

  pub allpass-apart : (i k : ℕ) → i < 4 → k < i → place_of (allpass_lines o w n) i ≢ place_of (allpass_lines o w n) k
  allpass-apart i k h g = omega (arith, line-below f i h, line-below f k (omega arith))

-- lines whose places are as they were hold what they held
pub held-ext : (k : ℕ) (l : Lines) (m m' : List Float) → ((i : ℕ) → i < k → get_or m' (place_of l i) nan ≡ get_or m (place_of l i) nan) → held k l m' ≡ held k l m
unfolding held
held-ext k l m m' h = table-ext (λ i. get_or m' (place_of l i) nan) (λ i. get_or m (place_of l i) nan) k h

-- ---- a step of line i, at the position v, after stores in other lines, so that its place holds what it held in m: on the k places from the line's start on,
-- which are lent as a part of the memory

module _ (count : ℕ) (l : Lines) (m : List Float) (i : ℕ) (h : i < count) (m' : List Float) (k : ℕ) {v : ℕ} (inside : v < k) (at : v ≡ get_or l.positions i 0) (same : get_or m' (place_of l i) nan ≡ get_or m (place_of l i) nan) where
  read : get_or (take k (drop (l.start i) m')) v nan ≡ get_or (held count l m) i nan
  unfolding held
  read =
      part-get_or (l.start i) k m' v nan inside
      ∙ ap (λ (w : ℕ). get_or m' (l.start i + w) nan) at
      ∙ same
      ∙ sym (get_or-table (λ j. get_or m (place_of l j) nan) count i nan h)

-- a comb, whose store is read as y
module _ (x d f : Float) (l : Lines) (z m : List Float) (i : ℕ) (h : i < 8) (m' : List Float) (k : ℕ) {v : ℕ} {y : Float} (inside : v < k) (at : v ≡ get_or l.positions i 0) (kept : y ≡ get_or z i nan) (same : get_or m' (place_of l i) nan ≡ get_or m (place_of l i) nan) where
  -- its answer, store and position
  pub comb-gives : {r : Combed} → r ≡ combed (get_or (take k (drop (l.start i) m')) v nan) y x d f
      → r ≡ record { output = get_or (combs_held l m) i nan; filter_state = comb_stored d z (combs_held l m) i; fed = (comb_write x d f l z (combs_held l m) i).value }
  unfolding combed comb_stored comb_write
  comb-gives e =
      let b = read 8 l m i h m' k inside at same in
      e ∙ (λ j. record { output = b j; filter_state = comb_store (b j) (kept j) d; fed = comb_fed x (comb_store (b j) (kept j) d) f })

  -- and its write
  pub comb-writes : {line : List Float} → l.start i + k ≤ length m' → line ≡ comb_line (take k (drop (l.start i) m')) v y x d f
      → put_mid (l.start i) k m' line ≡ set m' (comb_write x d f l z (combs_held l m) i).place (comb_write x d f l z (combs_held l m) i).value
  unfolding comb_line comb_write comb_stored
  comb-writes room e =
      let b = read 8 l m i h m' k inside at same in
      ap (put_mid (l.start i) k m') e
      ∙ part-set (l.start i) k m' v _ inside room
      ∙ (λ j. set m' (l.start i + at j) (comb_fed x (comb_store (b j) (kept j) d) f))

-- an all-pass, with y into it
module _ (x : Float) (l : Lines) (m : List Float) (i : ℕ) (h : i < 4) (m' : List Float) (y : Float) (k : ℕ) {v : ℕ} (inside : v < k) (at : v ≡ get_or l.positions i 0) (same : get_or m' (place_of l i) nan ≡ get_or m (place_of l i) nan) (into : y ≡ passed_on x (allpasses_held l m) i) where
  pub pass-gives : {r : Passed} → r ≡ passed (get_or (take k (drop (l.start i) m')) v nan) y
      → r ≡ record { output = passed_on x (allpasses_held l m) (i + 1); held = get_or (allpasses_held l m) i nan; fed = (allpass_write x l (allpasses_held l m) i).value }
  unfolding passed passed_on allpass_write
  pass-gives e =
      let b = read 4 l m i h m' k inside at same in
      rw (add-one i) (e ∙ (λ j. record { output = pass_output (into j) (b j); held = b j; fed = pass_fed (into j) (b j) }))

  pub pass-writes : {line : List Float} → l.start i + k ≤ length m' → line ≡ pass_line (take k (drop (l.start i) m')) v y
      → put_mid (l.start i) k m' line ≡ set m' (allpass_write x l (allpasses_held l m) i).place (allpass_write x l (allpasses_held l m) i).value
  unfolding pass_line allpass_write
  pass-writes room e =
      let b = read 4 l m i h m' k inside at same in
      ap (put_mid (l.start i) k m') e
      ∙ part-set (l.start i) k m' v _ inside room
      ∙ (λ j. set m' (l.start i + at j) (pass_fed (into j) (b j)))

-- ---- sums

pub sum_more : (h : List Float) (i : ℕ) {a b : Float} → a ≡ sum_of h i → b ≡ get_or h i nan → add binary64 a b ≡ sum_of h (i + 1)
unfolding sum_of
sum_more h i e g = rw (add-one i) (λ j. add binary64 (e j) (g j))
