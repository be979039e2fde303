-- `filters::predelay_samples` is `delay_samples`, from 1 on and below. Assumes nothing.
use Rattle.std.proofs.Common.{T, sym, ap, ◌∙◌, subst}
use lib.Ieee.{Float, binary64, mul, fits, le, of_bits, of_int, round}
use lib.Ieee.Fits.{mul-fits}
use Rattle.float64.specs.Number.{float_of, fraction, Small}
use Rattle.reverb.specs.Reverb.{delay_samples}
use Rattle.reverb.proofs.Predelay.{held_small, held_none}
use Rattle.reverb.proofs.filters.predelay_samples.Goals as goal

-- control × 0.1 × rate
abbrev samples : Float → Float → Float
samples control rate = mul binary64 (mul binary64 control (fraction 1 10)) rate

samples-fit : (control rate : Float) → T (fits binary64 (samples control rate))
samples-fit control rate = mul-fits binary64 (mul binary64 control (fraction 1 10)) rate

pub whole_part_small-requires : goal.whole_part_small-requires
unfolding of_bits of_int round
whole_part_small-requires c =
    let e = sym c.at_most-samples.ensures in
    subst Small e (held_small (samples c.args.control c.args.rate) (samples-fit c.args.control c.args.rate) (ap (le (float_of 1)) e ∙ c.if-samples.true))

pub returns : goal.returns
unfolding delay_samples of_bits of_int round
returns c =
    sym (held_none (samples c.args.control c.args.rate) (samples-fit c.args.control c.args.rate) (ap (le (float_of 1)) (sym c.at_most-samples.ensures) ∙ c.if-samples.false))
