-- `Lent::advance`: the predelay writes and reads, then the combs step, then the all-passes. Assumes nothing.
use Rattle.std.proofs.Common.{◌+◌, ◌≤◌, set, refl, ap, ◌∙◌, arith}
use lib.Ieee.{Float, nan, binary64, add, mul, le, of_bits, of_int, round}
use lib.Ieee as Ieee
use borrow.Rule.Slice.PartMut.{put_mid}
use Rattle.float64.proofs.Clamped.{clamp-in}
use Rattle.common.proofs.Slices.{part-get_or, part-set}
use Rattle.common.specs.Line.{nonzero}
use Rattle.common.specs.Signal.{blended}
use Rattle.reverb.specs.declared.stepped.Stepped.{Stepped}
use Rattle.reverb.specs.Tunings.{left, right, predelay_size}
use Rattle.reverb.specs.Tank.{predelay_start, delayed}
use Rattle.reverb.specs.Reverb.{delay_samples}
use Rattle.reverb.proofs.Used.{used-most}
use Rattle.reverb.proofs.Laws.{fits-parts}
use Rattle.reverb.proofs.Predelay.{delay-less, delayed-part}
use Rattle.reverb.proofs.Ticks.{advances}
use Rattle.reverb.proofs.Lent.advance.Goals as goal

pub process_predelay-delayed-requires-clause-pos_lt_predelay_size : goal.process_predelay-delayed-requires-clause-pos_lt_predelay_size
process_predelay-delayed-requires-clause-pos_lt_predelay_size c = (fits-parts _ c.requires.unit_fits).predelay

pub process_predelay-delayed-requires-clause-samples_lt_predelay_size : goal.process_predelay-delayed-requires-clause-samples_lt_predelay_size
unfolding Ieee.fits le of_bits of_int
process_predelay-delayed-requires-clause-samples_lt_predelay_size c =
    rw (c.predelay_samples-samples.ensures, c.clamp-2.ensures)
    (delay-less _ c.args.self.now.sample_rate (clamp-in c.args.c.predelay tt tt c.requires.predelay_is_number) (fits-parts _ c.requires.unit_fits).rate)

pub next_place-self-requires : goal.next_place-self-requires
next_place-self-requires c = record { inside = (fits-parts _ c.requires.unit_fits).predelay; short = omega arith }

-- the lines that the steps are handed, at their lengths for the rate
pub combs-sum_l-requires-clause-in_lines : goal.combs-sum_l-requires-clause-in_lines
combs-sum_l-requires-clause-in_lines c = rw c.requires.n_value ((fits-parts _ c.requires.unit_fits).combs left)

pub combs-sum_r-requires-clause-in_lines : goal.combs-sum_r-requires-clause-in_lines
combs-sum_r-requires-clause-in_lines c = rw c.requires.n_value ((fits-parts _ c.requires.unit_fits).combs right)

pub allpasses-wet_l-requires-clause-in_lines : goal.allpasses-wet_l-requires-clause-in_lines
allpasses-wet_l-requires-clause-in_lines c = rw c.requires.n_value ((fits-parts _ c.requires.unit_fits).allpasses left)

pub allpasses-wet_r-requires-clause-in_lines : goal.allpasses-wet_r-requires-clause-in_lines
allpasses-wet_r-requires-clause-in_lines c = rw c.requires.n_value ((fits-parts _ c.requires.unit_fits).allpasses right)

-- no more are counted than the tank has places
pub recount-self-requires : goal.recount-self-requires
recount-self-requires c =
    let few : (r : Stepped) → r.gained ≤ 8 = λ r. r.gained_few in
    omega (
      arith,
      (fits-parts _ c.requires.unit_fits).count,
      used-most c.args.self.now.sample_rate,
      few c.process_predelay-delayed.result,
      few c.combs-sum_l.result,
      few c.combs-sum_r.result,
      few c.allpasses-wet_l.result,
      few c.allpasses-wet_r.result,
    )

pub returns-clause-advances : goal.returns-clause-advances
unfolding of_bits of_int round
returns-clause-advances c =
    let a = c.args in
    let m = a.mem.now in
    let w = a.self.now.predelay_pos.now in
    let f = fits-parts _ c.requires.unit_fits in
    let audio = c.sanitize_audio-input.ensures in
    let samples = c.predelay_samples-samples.ensures ∙ ap (λ (x : Float). delay_samples x a.self.now.sample_rate) c.clamp-2.ensures in
    advances a.c _ m f c.requires.n_value
    (c.process_predelay-delayed.ensures.value
    ∙ delayed-part predelay_start w _ m _ predelay_size refl f.predelay
    ∙ (λ i. delayed predelay_start w (samples i) (audio i) m))
    (ap (λ (x : Float). mul binary64 x _) c.clamp-damping.ensures)
    (ap (λ (x : Float). add binary64 _ (mul binary64 x _)) c.clamp.ensures)
    (ap (put_mid predelay_start predelay_size m) c.process_predelay-delayed.ensures.line_after
    ∙ part-set predelay_start predelay_size m w _ f.predelay c.requires.tank_size_bound
    ∙ ap (λ (x : Float). set m (predelay_start + w) x) audio)
    c.combs-sum_l.ensures c.combs-sum_r.ensures c.allpasses-wet_l.ensures c.allpasses-wet_r.ensures
    c.process_predelay-delayed.result
    (c.process_predelay-delayed.ensures.gained ∙ ap nonzero audio)
    (c.process_predelay-delayed.ensures.lost ∙ ap nonzero (part-get_or predelay_start predelay_size m w nan f.predelay))
    c.next_place-self.ensures
    c.recount-self.ensures
    (c.blend-left.ensures ∙ (λ i. blended (audio i) c.allpasses-wet_l.result.output (c.clamp-mix.ensures i)))
    (c.blend-right.ensures ∙ (λ i. blended (audio i) c.allpasses-wet_r.result.output (c.clamp-mix.ensures i)))
