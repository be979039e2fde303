-- `Reader::read_half` is the read half: the distance to which the delay has glided, what is heard there, and what is made of it. Assumes nothing.
use Rattle.std.proofs.Common.{◌-◌, ap, ◌∙◌}
use lib.Ieee.{binary64, add, mul, of_bits, of_int, round}
use Rattle.float64.specs.Number.{float_of, clamp_of}
use Rattle.common.specs.Line.{line_at, read_at}
use Rattle.common.specs.Reads.{age_at}
use Rattle.delay_line.specs.Halves.{glided, reads_at, delayed_by}
use Rattle.delay_line.proofs.halves.Reader.read_half.Goals as goal

pub returns : goal.returns
unfolding reads_at delayed_by of_bits of_int round
returns c =
    let a = c.args in
    let long = c.requires.places_value in
    let at = c.glided-distance.ensures ∙ ap (glided a.self) (c.hold.ensures ∙ (λ i. clamp_of a.samples (float_of 1) (float_of (long i - 1)))) in
    let heard = c.read-delayed.ensures.sample ∙ (λ i. read_at (line_at 0 (long i) a.self.write_pos a.places.now) (at i)) in
    let age = c.read-delayed.ensures.age ∙ ap age_at at in
    λ i.
    let input = c.sanitize_audio-input.ensures i in
    record {
      kept = record { audio = input; read = heard i; mix = c.clamp-wet.ensures i };
      sum = add binary64 input (mul binary64 (heard i) (c.clamp-back.ensures i));
      smoothed_delay = at i;
      age = age i;
    }
