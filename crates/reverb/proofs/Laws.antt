-- The reverb's state test by its parts, and the table's row of a tick. Assumes nothing.
use Rattle.std.proofs.Common.{◌≡◌, ℕ, ◌<◌, ◌≤◌, Bool, true, false, cond, ◌&&◌, ◌||◌, ltb, leb, replicate, refl, sym, ap, ◌∙◌, ltb-true, lt-ltb, leb-true, le-leb}
use Rattle.float64.specs.Number.{rate_fits}
use Rattle.float64.proofs.Tests.{both}
use Rattle.port.specs.Port.{is_nan_set}
use Rattle.common.proofs.Sweep.{neither}
use Rattle.effect.specs.Parts.{sizes}
use Rattle.effect.proofs.Table.{none_5}
use Rattle.reverb.specs.declared.tunings.Lengths.{Lengths}
use Rattle.reverb.specs.declared.Reverb.{Reverb}
use Rattle.reverb.specs.Tunings.{Side, left, right, comb_most, allpass_most, predelay_size, comb_tunings, allpass_tunings, lengths_at, no_lengths, lengths_for}
use Rattle.reverb.specs.Tank.{Lines, all_below, positions_fit, InLines}
use Rattle.reverb.specs.Reverb.{Tick, combs, allpasses, used_parts, state_fits, tick_number}
use mathlib.Core.Bool.{and-false}
use Rattle.reverb.proofs.Lists.{below-zero}
use Rattle.reverb.proofs.Scaling.{lines-most}
use Rattle.reverb.proofs.Used.{used-is}

pub record Fits (s : Reverb) : Type 0 where
  pub rate : rate_fits s.sample_rate ≡ true
  pub predelay : s.predelay_pos < predelay_size
  pub combs : (side : Side) → InLines 8 comb_most (combs s side)
  pub allpasses : (side : Side) → InLines 4 allpass_most (allpasses s side)
  pub count : s.nonzero_places ≤ sizes (used_parts s.sample_rate)

module _ (s : Reverb) where
  -- the tests of positions
  abbrev below : Lines → Bool
  below l = all_below l.positions l.lengths

  abbrev side_below : Side → Bool
  side_below side = below (combs s side) && below (allpasses s side)

  abbrev inside : Bool
  inside = ltb s.predelay_pos predelay_size && (side_below left && side_below right)

  abbrev counted : Bool
  counted = leb s.nonzero_places (sizes (used_parts s.sample_rate))

  -- the lines of a state with such positions
  pub combs-in : below (combs s left) ≡ true → below (combs s right) ≡ true → (side : Side) → InLines 8 comb_most (combs s side)
  combs-in l r left = record { counted = refl; inside = l; capped = lines-most comb_most comb_tunings left s.sample_rate }
  combs-in l r right = record { counted = refl; inside = r; capped = lines-most comb_most comb_tunings right s.sample_rate }

  pub allpasses-in : below (allpasses s left) ≡ true → below (allpasses s right) ≡ true → (side : Side) → InLines 4 allpass_most (allpasses s side)
  allpasses-in l r left = record { counted = refl; inside = l; capped = lines-most allpass_most allpass_tunings left s.sample_rate }
  allpasses-in l r right = record { counted = refl; inside = r; capped = lines-most allpass_most allpass_tunings right s.sample_rate }

  pub fits-parts : state_fits s ≡ true → Fits s
  unfolding state_fits
  fits-parts e =
      let a = both (rate_fits s.sample_rate) (inside && counted) e in
      let b = both inside counted a.1 in
      let c = both (ltb s.predelay_pos predelay_size) (side_below left && side_below right) b.0 in
      let d = both (side_below left) (side_below right) c.1 in
      let l = both (below (combs s left)) (below (allpasses s left)) d.0 in
      let r = both (below (combs s right)) (below (allpasses s right)) d.1 in
      record {
        rate = a.0;
        predelay = ltb-true s.predelay_pos predelay_size c.0;
        combs = combs-in l.0 r.0;
        allpasses = allpasses-in l.1 r.1;
        count = leb-true s.nonzero_places (sizes (used_parts s.sample_rate)) b.1;
      }

  pub fit : Fits s → state_fits s ≡ true
  unfolding state_fits
  fit f =
      let c : (side : Side) → below (combs s side) ≡ true = λ side. (f.combs side).inside in
      let p : (side : Side) → below (allpasses s side) ≡ true = λ side. (f.allpasses side).inside in
      rw (f.rate, lt-ltb s.predelay_pos predelay_size f.predelay, c left, c right, p left, p right)
      (le-leb s.nonzero_places (sizes (used_parts s.sample_rate)) f.count)

  -- by the positions, the count and every line's length as the code finds it
  pub fits_by : {n : Lengths} → n ≡ lengths_for s.sample_rate
      → positions_fit s.comb_pos_l s.comb_pos_r s.allpass_pos_l s.allpass_pos_r s.predelay_pos n && leb s.nonzero_places n.used ≡ state_fits s
  unfolding state_fits
  fits_by {n} e = go (rate_fits s.sample_rate) e
    where
      parts : Lengths → Bool
      parts = positions_fit s.comb_pos_l s.comb_pos_r s.allpass_pos_l s.allpass_pos_r s.predelay_pos

      go : (b : Bool) → n ≡ cond b (lengths_at s.sample_rate) no_lengths → parts n && leb s.nonzero_places n.used ≡ b && (inside && counted)
      go true e =
          ap (λ (l : Lengths). parts l && leb s.nonzero_places l.used) e
          ∙ ap (λ (u : ℕ). inside && leb s.nonzero_places u) (sym (used-is (lengths_at s.sample_rate)))
      go false e = rw (e, below-zero s.comb_pos_l (replicate 7 0), and-false (ltb s.predelay_pos predelay_size)) refl

-- ---- cause 5

pub record TickFits (t : Tick) : Type 0 where
  pub size : is_nan_set t.size ≡ false
  pub damping : is_nan_set t.damping ≡ false
  pub mix : is_nan_set t.mix ≡ false

pub tick-fits : (t : Tick) → tick_number t ≡ 0 → TickFits t
unfolding tick_number
tick-fits t e =
    let last = is_nan_set t.mix || is_nan_set t.predelay in
    let others = is_nan_set t.damping || last in
    let a = neither (is_nan_set t.size) others (none_5 (is_nan_set t.size || others) e) in
    let b = neither (is_nan_set t.damping) last a.1 in
    record { size = a.0; damping = b.0; mix = (neither (is_nan_set t.mix) (is_nan_set t.predelay) b.1).0 }
