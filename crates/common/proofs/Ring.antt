-- A line of any length L: where its samples lie, and what stores, an advance of the position and a clearing make of it, read newest to oldest.
-- Assumes nothing.
use mathlib.Core.Path.{◌≡◌, refl, sym, ap, ◌∙◌}
use Prim.Native.Nat.{ℕ, zero, suc, ◌+◌, ◌-◌, ◌≤◌, ◌<◌}
use native.Mathlib.Nat.{mod-eq_of_lt, add-mod_right, mod-lt, mod_self, zero-add}
use native.Mathlib.Numerals.{add-one}
use native.Mathlib.Omega.{arith}
use native.Mathlib.Decide.{dec_lt, dec_le}
use mathlib.Core.Logic.{◌≢◌, ◌⊎◌, inl, inr}
use mathlib.Core.List.{List, ◌∷◌}
use lib.ListN.{length, get_or, take, drop, set, length-take, length-replicate, get_or-replicate}
use lib.Seq.{ext_get_or, get_or-set_same, get_or-set_other, get_or-take, get_or-drop}
use lib.Ieee.{Float, nan}
use Rattle.float64.specs.Number.{plus_zero, whole_part, fraction_part}
use Rattle.common.specs.Signal.{blended}
use Rattle.common.specs.Line.{zeros, place, next_place, line_at, read_at, newest_first}
use Rattle.common.proofs.Slices.{part_length, part-get_or}
use Rattle.common.proofs.Tables.{length-table, get_or-table, table-ext}

-- a read at a distance, of a line read newest to oldest
unfoldable pub read_line : List Float → Float → Float
read_line l distance = read_at (λ d. get_or l (d - 1) nan) distance

-- ---- places

-- the place d samples back, with no remainder to take
pub place-low : (L w d : ℕ) → w < L → d ≤ w → place L w d ≡ w - d
place-low L w d h k =
    let e : w + L - d ≡ (w - d) + L = omega arith in
    rw e (add-mod_right (w - d) L ∙ mod-eq_of_lt (omega arith))

pub place-high : (L w d : ℕ) → w < d → d ≤ L → place L w d ≡ w + L - d
place-high L w d h k = mod-eq_of_lt (omega arith)

pub place-lt : (L w d : ℕ) → w < L → place L w d < L
place-lt L w d h = mod-lt (w + L - d) (omega arith)

-- one further back than d samples back
pub place-again : (L w d : ℕ) → w < L → 1 ≤ d → d < L → place L (place L w d) 1 ≡ place L w (d + 1)
place-again L w d h a b = go (dec_le d w) (dec_le (d + 1) w)
  where
    go : Dec (d ≤ w) → Dec (d + 1 ≤ w) → place L (place L w d) 1 ≡ place L w (d + 1)
    go (yes k) (yes l) = rw (place-low L w d h k) (place-low L (w - d) 1 (omega arith) (omega arith) ∙ (omega arith) ∙ sym (place-low L w (d + 1) h l))
    go (yes k) (no l) = rw (place-low L w d h k) (place-high L (w - d) 1 (omega arith) (omega arith) ∙ (omega arith) ∙ sym (place-high L w (d + 1) (omega arith) (omega arith)))
    go (no k) (yes l) = absurd (omega arith)
    go (no k) (no l) = rw (place-high L w d (omega arith) (omega arith)) (place-low L (w + L - d) 1 (omega arith) (omega arith) ∙ (omega arith) ∙ sym (place-high L w (d + 1) (omega arith) (omega arith)))

-- the next position
pub next_low : (L w : ℕ) → w + 1 < L → next_place L w ≡ w + 1
next_low L w h = mod-eq_of_lt h

pub next-high : (L w : ℕ) → w + 1 ≡ L → next_place L w ≡ 0
next-high L w e = rw e (mod_self L)

pub next-lt : (L w : ℕ) → w < L → next_place L w < L
next-lt L w h = mod-lt (w + 1) (omega arith)

-- after an advance the newest sample lies where the position was
pub place-new : (L w : ℕ) → w < L → place L (next_place L w) 1 ≡ w
place-new L w h = go (dec_lt (w + 1) L)
  where
    go : Dec (w + 1 < L) → place L (next_place L w) 1 ≡ w
    go (yes k) = rw (next_low L w k) (place-low L (w + 1) 1 k (omega arith) ∙ omega arith)
    go (no k) = rw (next-high L w (omega arith)) (place-high L 0 1 (omega arith) (omega arith) ∙ omega arith)

-- the others lie one further back than before
pub place-old : (L w d : ℕ) → w < L → 1 ≤ d → d < L → place L (next_place L w) (d + 1) ≡ place L w d
place-old L w d h a b = go (dec_lt (w + 1) L) (dec_le d w)
  where
    go : Dec (w + 1 < L) → Dec (d ≤ w) → place L (next_place L w) (d + 1) ≡ place L w d
    go (yes k) (yes l) = rw (next_low L w k) (place-low L (w + 1) (d + 1) k (omega arith) ∙ (omega arith) ∙ sym (place-low L w d h l))
    go (yes k) (no l) = rw (next_low L w k) (place-high L (w + 1) (d + 1) (omega arith) (omega arith) ∙ (omega arith) ∙ sym (place-high L w d (omega arith) (omega arith)))
    go (no k) (yes l) = rw (next-high L w (omega arith)) (place-high L 0 (d + 1) (omega arith) (omega arith) ∙ (omega arith) ∙ sym (place-low L w d h l))
    go (no k) (no l) = absurd (omega arith)

-- and none of them but the oldest lies at the position
pub place_other : (L w d : ℕ) → w < L → 1 ≤ d → d < L → place L w d ≢ w
place_other L w d h a b = go (dec_le d w)
  where
    go : Dec (d ≤ w) → place L w d ≢ w
    go (yes l) = omega (arith, place-low L w d h l)
    go (no l) = omega (arith, place-high L w d (omega arith) (omega arith))

-- each place of the line lies some samples back, from 1 to L
record Back (L w p : ℕ) : Type 0 where
  distance : ℕ
  at_least : 1 ≤ distance
  at-most : distance ≤ L
  place_is : place L w distance ≡ p

back : (L w p : ℕ) → w < L → p < L → Back L w p
back L w p h k = go (dec_lt p w)
  where
    go : Dec (p < w) → Back L w p
    go (yes l) = record { distance = w - p; at_least = omega arith; at-most = omega arith; place_is = place-low L w (w - p) h (omega arith) ∙ omega arith }
    go (no l) = record { distance = w + L - p; at_least = omega arith; at-most = omega arith; place_is = place-high L w (w + L - p) (omega arith) (omega arith) ∙ omega arith }

-- ---- the line of L places from place o on, read newest to oldest

module _ (o L w : ℕ) (m : List Float) where
  pub length-newest : length (newest_first o L w m) ≡ L
  length-newest = simp length-table

  -- its entry i is what stands i + 1 samples back
  pub newest-at : (i : ℕ) → i < L → get_or (newest_first o L w m) i nan ≡ line_at o L w m (i + 1)
  newest-at i h = get_or-table (λ j. line_at o L w m (j + 1)) L i nan h

  -- so what stands d samples back is its entry d - 1
  pub line-at : (d : ℕ) → 1 ≤ d → d ≤ L → line_at o L w m d ≡ get_or (newest_first o L w m) (d - 1) nan
  line-at d h k =
      let e : d - 1 + 1 ≡ d = omega arith in
      ap (λ (q : ℕ). line_at o L w m q) (sym e) ∙ sym (newest-at (d - 1) (omega arith))

  -- a read is worked out from that reading and the distance alone
  pub read-line : (x : Float) → 1 ≤ whole_part x → whole_part x + 1 ≤ L → read_at (line_at o L w m) x ≡ read_line (newest_first o L w m) x
  unfolding read_at read_line
  read-line x h k = λ i. blended (line-at (whole_part x) h (omega arith) i) (line-at (whole_part x + 1) (omega arith) k i) (fraction_part x)

  -- it stands the same in the part of the memory that is the line
  pub part_at : (d : ℕ) → w < L → line_at 0 L w (take L (drop o m)) d ≡ line_at o L w m d
  part_at d h = rw (zero-add (place L w d)) (get_or-take L (drop o m) (place L w d) nan (place-lt L w d h) ∙ get_or-drop o m (place L w d) nan)

  pub part-line : w < L → line_at 0 L w (take L (drop o m)) ≡ line_at o L w m
  part-line h = λ i d. part_at d h i

  -- and in the first k places, where the line lies in these
  pub front-line : (k : ℕ) → o + L ≤ k → w < L → line_at o L w (take k m) ≡ line_at o L w m
  front-line k h l = λ i d. get_or-take k m (o + place L w d) nan (omega (arith, place-lt L w d l)) i

module _ (o L w : ℕ) (m : List Float) where
  -- a store at the position and an advance put the sample in front and drop the last
  pub push : (x : Float) → w < L → o + L ≤ length m → newest_first o L (next_place L w) (set m (o + w) x) ≡ x ∷ take (L - 1) (newest_first o L w m)
  push x h k = ext_get_or nan _ _ (length-newest o L w' m' ∙ lens) (λ i l. at i (omega (arith, length-newest o L w' m')))
    where
      w' : ℕ
      w' = next_place L w

      m' : List Float
      m' = set m (o + w) x

      lens : L ≡ length (x ∷ take (L - 1) (newest_first o L w m))
      lens = omega (arith, length-take (L - 1) (newest_first o L w m), length-newest o L w m)

      first : line_at o L w' m' 1 ≡ x
      first = ap (λ (p : ℕ). get_or m' (o + p) nan) (place-new L w h) ∙ get_or-set_same m (o + w) x nan (omega arith)

      later : (d : ℕ) → 1 ≤ d → d < L → line_at o L w' m' (d + 1) ≡ line_at o L w m d
      later d a b =
          ap (λ (p : ℕ). get_or m' (o + p) nan) (place-old L w d h a b)
          ∙ get_or-set_other m (o + w) (o + place L w d) x nan (omega (arith, place_other L w d h a b))

      at : (i : ℕ) → i < L → get_or (newest_first o L w' m') i nan ≡ get_or (x ∷ take (L - 1) (newest_first o L w m)) i nan
      at zero l = newest-at o L w' m' zero l ∙ first
      at (suc j) l =
          newest-at o L w' m' (suc j) l
          ∙ later (suc j) (omega arith) l
          ∙ ap (λ (d : ℕ). line_at o L w m d) (sym (add-one j))
          ∙ sym (newest-at o L w m j (omega arith))
          ∙ sym (get_or-take (L - 1) (newest_first o L w m) j nan (omega arith))

  -- a store outside the line changes nothing of it
  pub elsewhere : (p : ℕ) (x : Float) → w < L → (p < o) ⊎ (o + L ≤ p) → newest_first o L w (set m p x) ≡ newest_first o L w m
  elsewhere p x h k = table-ext _ _ L (λ i l. get_or-set_other m p (o + place L w (i + 1)) x nan (apart k (place L w (i + 1)) (place-lt L w (i + 1) h)))
    where
      apart : (p < o) ⊎ (o + L ≤ p) → (q : ℕ) → q < L → o + q ≢ p
      apart (inl a) q b = omega arith
      apart (inr a) q b = omega arith

-- a clearing makes all of it +0
pub newest-clear : (o L w n : ℕ) → w < L → o + L ≤ n → newest_first o L w (zeros n) ≡ zeros L
newest-clear o L w n h k =
    ext_get_or nan _ _ (length-newest o L w (zeros n) ∙ sym (length-replicate L plus_zero)) (λ i l.
    let b : i < L = omega (arith, length-newest o L w (zeros n)) in
    newest-at o L w (zeros n) i b
    ∙ get_or-replicate n (o + place L w (i + 1)) plus_zero nan (omega (arith, place-lt L w (i + 1) h))
    ∙ sym (get_or-replicate L i plus_zero nan b))

-- two lines with the same position that read alike hold the same in every place
pub same-places : (o o' L w : ℕ) (m m' : List Float) → w < L → o + L ≤ length m → o' + L ≤ length m' → newest_first o L w m ≡ newest_first o' L w m'
    → take L (drop o m) ≡ take L (drop o' m')
same-places o o' L w m m' h k k' e = ext_get_or nan _ _ (part_length o L m L refl k ∙ sym (part_length o' L m' L refl k')) (λ p l. at p (omega (arith, part_length o L m L refl k)))
  where
    -- what stands in place p of a part is an entry of the line
    entry : (q : ℕ) (n : List Float) (p : ℕ) (b : Back L w p) → p < L → get_or (take L (drop q n)) p nan ≡ get_or (newest_first q L w n) (b.distance - 1) nan
    entry q n p b l =
        part-get_or q L n p nan l
        ∙ ap (λ (r : ℕ). get_or n (q + r) nan) (sym b.place_is)
        ∙ line-at q L w n b.distance b.at_least b.at-most

    at : (p : ℕ) → p < L → get_or (take L (drop o m)) p nan ≡ get_or (take L (drop o' m')) p nan
    at p l =
        let b = back L w p h l in
        entry o m p b l ∙ ap (λ (q : List Float). get_or q (b.distance - 1) nan) e ∙ sym (entry o' m' p b l)
