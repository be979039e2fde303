-- `tunings::scaled_lengths` is `lengths_at` at an accepted rate, and all 0 at another. Assumes nothing.
use Rattle.std.proofs.Common.{◌≡◌, ℕ, ◌+◌, ◌≤◌, true, min, List, map, sym, refl, ap, ◌∙◌, arith}
use lib.Ieee.{Float, of_bits, of_int}
use Rattle.float64.specs.Number.{rate_fits}
use Rattle.std.specs.List.{sum}
use Rattle.reverb.specs.Tunings.{left, right, predelay_size, comb_most, allpass_most, comb_tunings, allpass_tunings, ratio, scaled, spread, beside, used_by, tuned}
use Rattle.reverb.proofs.Scaling.{ratio-fits, beside-capped, lines-capped}
use Rattle.reverb.proofs.tunings.scaled_lengths.Goals as goal

pub scale-requires : goal.scale-requires
unfolding tuned ratio of_bits of_int
scale-requires c = (omega arith, (omega arith, (refl, (ratio-fits c.args.rate (sym c.rate_fits.ensures ∙ c.if-not-rate_fits.false), (omega arith, omega arith)))))

pub scale-requires-2 : goal.scale-requires-2
unfolding tuned ratio of_bits of_int
scale-requires-2 c = (omega arith, (omega arith, (refl, (ratio-fits c.args.rate (sym c.rate_fits.ensures ∙ c.if-not-rate_fits.false), (omega arith, omega arith)))))

-- the right lengths, which the code works out by the spread held to the longest comb
right-are : (most wide : ℕ) (r : Float) (tunings lengths : List ℕ) → most ≤ comb_most → wide ≡ min (spread r) comb_most
    → lengths ≡ map (λ base. beside most wide (scaled most r base)) tunings
    → lengths ≡ map (λ base. beside most (spread r) (scaled most r base)) tunings
right-are most wide r tunings lengths h w e =
    e
    ∙ ap (λ (v : ℕ). map (λ base. beside most v (scaled most r base)) tunings) w
    ∙ (λ j. map (λ base. beside-capped most (spread r) (scaled most r base) h j) tunings)

-- no line is longer than the longest comb, so that the totals fit
pub total-requires : goal.total-requires
unfolding ratio of_bits of_int
total-requires c = (omega arith, (omega arith, lines-capped comb_most comb_tunings left c.args.rate (omega arith) c.scale.ensures.left))

pub total-requires-2 : goal.total-requires-2
unfolding ratio of_bits of_int
total-requires-2 c =
    let e = right-are comb_most _ (ratio c.args.rate) comb_tunings _ (omega arith) c.stereo_spread-wide.ensures c.scale.ensures.right in
    (omega arith, (omega arith, lines-capped comb_most comb_tunings right c.args.rate (omega arith) e))

pub total-requires-3 : goal.total-requires-3
unfolding ratio of_bits of_int
total-requires-3 c = (omega arith, (omega arith, lines-capped allpass_most allpass_tunings left c.args.rate (omega arith) c.scale-2.ensures.left))

pub total-requires-4 : goal.total-requires-4
unfolding ratio of_bits of_int
total-requires-4 c =
    let e = right-are allpass_most _ (ratio c.args.rate) allpass_tunings _ (omega arith) c.stereo_spread-wide.ensures c.scale-2.ensures.right in
    (omega arith, (omega arith, lines-capped allpass_most allpass_tunings right c.args.rate (omega arith) e))

-- the four totals, of these lengths, and the predelay's
used-are : {a b c d : ℕ} {l r p q cl cr pl pr : List ℕ} → a ≡ sum l → b ≡ sum r → c ≡ sum p → d ≡ sum q → l ≡ cl → r ≡ cr → p ≡ pl → q ≡ pr
    → a + b + c + d + predelay_size ≡ used_by cl cr pl pr
used-are a b c d l r p q = (λ i. a i + b i + c i + d i + predelay_size) ∙ (λ i. used_by (l i) (r i) (p i) (q i))

pub returns : goal.returns
unfolding ratio of_bits of_int
returns c =
    let rate = c.args.rate in
    let r = ratio rate in
    let wide = c.stereo_spread-wide.ensures in
    let fits : rate_fits rate ≡ true = sym c.rate_fits.ensures ∙ c.if-not-rate_fits.false in
    let comb-l = c.scale.ensures.left in
    let comb-r = right-are comb_most _ r comb_tunings _ (omega arith) wide c.scale.ensures.right in
    let allpass-l = c.scale-2.ensures.left in
    let allpass-r = right-are allpass_most _ r allpass_tunings _ (omega arith) wide c.scale-2.ensures.right in
    let used = used-are c.total.ensures.value c.total-2.ensures.value c.total-3.ensures.value c.total-4.ensures.value comb-l comb-r allpass-l allpass-r in
    rw fits (λ i. record { comb_l = comb-l i; comb_r = comb-r i; allpass_l = allpass-l i; allpass_r = allpass-r i; used = used i })
