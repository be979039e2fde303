-- The starred bench cases hold, by computing the definitions that the contracts cite. Assumes nothing.
use mathlib.Core.Path.{◌≡◌, refl}
use lib.Ieee.{add, sub, mul, div, neg, eq, lt, le, fits, is_nan, of_int, round, to_unsigned, to_bits}
use Rattle.float64.specs.Number.{is_number, is_finite, in_range, in_unit, is_plus_zero, clamp_of, at_most, round_half_away}
use Rattle.common.specs.Signal.{blended}
use Rattle.common.specs.Line.{read_at}
use Rattle.common.specs.Reads.{age_at}
use Rattle.effect.specs.Run.{replies}
use Rattle.chorus.specs.Chorus as cho
use Rattle.flanger.specs.Flanger as flan
use Rattle.vibrato.specs.Vibrato as vib
use Rattle.tremolo.specs.Tremolo as trem
use Rattle.delay_line.specs.Halves as halves
use Rattle.delay_line.specs.DelayLine as delay
use Rattle.float64.specs.Number.{float_of}
use Rattle.reverb.specs.Freeverb.{comb_store, comb_fed, combed, pass_output, pass_fed}
use Rattle.guarantees.specs.CountedSilence.{reverb_places}
use Rattle.reverb.specs.Tunings.{ratio, scaled, spread, beside}
use Rattle.reverb.specs.Reverb.{delay_samples}
use Rattle.needed.specs.Needed.{needed_by}
use Rattle.guarantees.specs.Starred.{Starred}

pub starred-hold : Starred
unfolding needed_by replies read_at age_at blended comb_store comb_fed combed pass_output pass_fed ratio scaled spread beside delay_samples is_number is_finite in_range in_unit is_plus_zero clamp_of at_most round_half_away add sub mul div neg eq lt le fits is_nan of_int round to_unsigned to_bits cho.line_length flan.line_length vib.line_length trem.state_fits trem.tick_number trem.samples trem.modulated trem.lfo trem.triangle halves.line_length halves.glide_fits halves.reader_fits halves.linear_ms halves.samples_of halves.glided halves.reads_at halves.delayed_by delay.held_maximum delay.settings_number delay.tick_number delay.delay_ms delay.next_counted delay.writes delay.samples
starred-hold =
    record {
      hold = (refl, (refl, (refl, (refl, (refl, (refl, (refl, (refl, (refl, (refl, (refl, ((refl, refl), ((refl, refl), ((refl, refl), (refl, (refl, (refl, (refl, (refl, (refl, (refl, ((refl, refl), (refl, (refl, tt))))))))))))))))))))))));
    }

-- ---- how many places of a reverb are in use, by computing its lengths

pub reverb_at_8000 : reverb_places (float_of 8000) ≡ 14200
unfolding ratio scaled spread beside is_number in_range round_half_away add sub mul div eq lt le fits is_nan of_int round to_unsigned
reverb_at_8000 = refl

pub reverb_at_192000 : reverb_places (float_of 192000) ≡ 86157
unfolding ratio scaled spread beside is_number in_range round_half_away add sub mul div eq lt le fits is_nan of_int round to_unsigned
reverb_at_192000 = refl
