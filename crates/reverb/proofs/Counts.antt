-- The reverb's count: the 25 writes of a tick are in 25 lines, which lie apart. Assumes nothing.
use Rattle.std.proofs.Common.{ℕ, zero, suc, ◌+◌, ◌≤◌, ◌<◌, ◌≢◌, List, [], ◌∷◌, ◌++◌, refl, sym, arith}
use lib.Ieee.{Float}
use Rattle.effect.specs.Effect.{Write, Unnamed, EachWrite}
use Rattle.effect.specs.Counts.{Distinct, Counts}
use Rattle.effect.proofs.CountLaws.{CountLaws}
use Rattle.effect.proofs.Counts.{counts}
use Rattle.effect.proofs.Memory.{each-append}
use Rattle.reverb.specs.declared.tick.Controls.{Controls}
use Rattle.reverb.specs.declared.Reverb.{Reverb}
use Rattle.reverb.specs.Tunings.{Side, left, right, comb_lengths, allpass_lengths}
use Rattle.reverb.specs.Tank.{combs_start, allpasses_start, predelay_start, place_of, by_sides, comb_write, allpass_write}
use Rattle.reverb.specs.Reverb.{reverb, combs, allpasses, controls_of, comb_writes, allpass_writes, writes, next}
use Rattle.reverb.proofs.Laws.{Fits, fits-parts}
use Rattle.reverb.proofs.Apart.{comb-apart, allpass-apart}
use Rattle.reverb.proofs.Ticks.{comb_at, pass_at}
use Rattle.reverb.proofs.Demand1.{laws, each-side}

-- some, none twice, and then some others
distinct-append : (ps qs : List Write) → Distinct ps → Distinct qs → EachWrite (λ w. Unnamed w.place qs) ps → Distinct (ps ++ qs)
distinct-append [] qs d e h = e
distinct-append (p ∷ ps) qs d e h = (each-append (λ w. p.place ≢ w.place) ps qs d.0 h.0, distinct-append ps qs d.1 e h.1)

-- line by line left and right, where a line's two places differ, and differ from those of each line before
distinct-sides : (f : ℕ → Side → Write) (n : ℕ) → ((i : ℕ) → i < n → (f i left).place ≢ (f i right).place)
    → ((i k : ℕ) → i < n → k < i → (a b : Side) → (f k b).place ≢ (f i a).place)
    → Distinct (by_sides f n)
unfolding by_sides
distinct-sides f zero two apart = tt
distinct-sides f (suc n) two apart =
    let last = f n left ∷ f n right ∷ [] in
    distinct-append (by_sides f n) last
    (distinct-sides f n (λ i h. two i (omega arith)) (λ i k h. apart i k (omega arith)))
    ((two n (omega arith), tt), (tt, tt))
    (each-side (λ w. Unnamed w.place last) f n (λ k h b. (apart n k (omega arith) h left b, (apart n k (omega arith) h right b, tt))))

module _ (c : Controls) (s : Reverb) (m : List Float) (f : Fits s) where
  combs-distinct : Distinct (by_sides (comb_writes c s m) 8)
  unfolding comb_write
  combs-distinct =
      distinct-sides (comb_writes c s m) 8
      (λ i h e. omega (arith, e, comb_at s f left i h, comb_at s f right i h))
      apart
    where
      apart : (i k : ℕ) → i < 8 → k < i → (a b : Side) → place_of (combs s b) k ≢ place_of (combs s a) i
      apart i k h g left left e = comb-apart (combs_start left) s.comb_pos_l (comb_lengths left s.sample_rate) (f.combs left) i k h g (sym e)
      apart i k h g left right e = omega (arith, e, comb_at s f left i h, comb_at s f right k (omega arith))
      apart i k h g right left e = omega (arith, e, comb_at s f right i h, comb_at s f left k (omega arith))
      apart i k h g right right e = comb-apart (combs_start right) s.comb_pos_r (comb_lengths right s.sample_rate) (f.combs right) i k h g (sym e)

  passes-distinct : Distinct (by_sides (allpass_writes s m) 4)
  unfolding allpass_write
  passes-distinct =
      distinct-sides (allpass_writes s m) 4
      (λ i h e. omega (arith, e, pass_at s f left i h, pass_at s f right i h))
      apart
    where
      apart : (i k : ℕ) → i < 4 → k < i → (a b : Side) → place_of (allpasses s b) k ≢ place_of (allpasses s a) i
      apart i k h g left left e = allpass-apart (allpasses_start left) s.allpass_pos_l (allpass_lengths left s.sample_rate) (f.allpasses left) i k h g (sym e)
      apart i k h g left right e = omega (arith, e, pass_at s f left i h, pass_at s f right k (omega arith))
      apart i k h g right left e = omega (arith, e, pass_at s f right i h, pass_at s f left k (omega arith))
      apart i k h g right right e = allpass-apart (allpasses_start right) s.allpass_pos_r (allpass_lengths right s.sample_rate) (f.allpasses right) i k h g (sym e)

  -- the combs' places lie below the all-passes', and these below the predelay's
  comb-below : (side : Side) (i : ℕ) → i < 8 → place_of (combs s side) i < allpasses_start left
  comb-below left i h = omega (arith, comb_at s f left i h)
  comb-below right i h = omega (arith, comb_at s f right i h)

  pass-between : (side : Side) (i : ℕ) → i < 4 → (allpasses_start left ≤ place_of (allpasses s side) i) × (place_of (allpasses s side) i < predelay_start)
  pass-between left i h = (omega (arith, pass_at s f left i h), omega (arith, pass_at s f left i h))
  pass-between right i h = (omega (arith, pass_at s f right i h), omega (arith, pass_at s f right i h))

  distinct : Distinct (writes c s m)
  unfolding writes comb_write allpass_write
  distinct =
      let cs = by_sides (comb_writes c s m) 8 in
      let ps = by_sides (allpass_writes s m) 4 in
      let apart : Write → Type 0 = λ w. predelay_start + s.predelay_pos ≢ w.place in (
        each-append apart cs ps
            (each-side apart (comb_writes c s m) 8 (λ i h side e. omega (arith, e, comb-below side i h)))
            (each-side apart (allpass_writes s m) 4 (λ i h side e. omega (arith, e, pass-between side i h))),
        distinct-append cs ps combs-distinct passes-distinct
            (each-side (λ w. Unnamed w.place ps) (comb_writes c s m) 8
            (λ i h a. each-side (λ w. place_of (combs s a) i ≢ w.place) (allpass_writes s m) 4 (λ k g b e. omega (arith, e, comb-below a i h, pass-between b k g)))),
      )

pub own : CountLaws reverb
unfolding next
own =
    record {
      fresh-count = λ k. refl;
      retuned-count = λ k s. refl;
      next-count = λ t s m f. refl;
      distinct = λ t s m f. distinct (controls_of t) s m (fits-parts s f);
      most = λ s f. (fits-parts s f).count;
    }

pub shown : Counts reverb
shown = counts reverb laws own
