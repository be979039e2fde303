-- The statements of specs/, each by what its effects show. Assumes nothing.
use Rattle.std.proofs.Common.{◌≡◌, ℕ, zero, suc, ◌≤◌, [], refl, sym, ap, arith}
use mathlib.Core.Bool.{or-false}
use lib.Ieee.{nan, inf, fin, eq, neg, of_bits}
use Rattle.float64.specs.Number.{is_zero}
use Rattle.float64.proofs.Ranges.{yes, finite-parts}
use Rattle.float64.proofs.Fields as fields
use Rattle.port.specs.declared.Port.{Port}
use Rattle.port.specs.declared.Port.TheVariants.{Set, Unset}
use Rattle.effect.specs.Run.{tick, Device, if_none, number_at, changed}
use Rattle.effect.proofs.Covers.{covers}
use Rattle.effect.proofs.Table.{if_none-both}
use Rattle.port.specs.Answer.{reply_age}
use Rattle.common.specs.Reads.{largest_age}
use Rattle.float64.proofs.Ranges.{range-in}
use Rattle.float64.proofs.Parts.{whole-ends}
use Rattle.common.proofs.Ages.{read-weighs, weight-none, exact-weights}
use Rattle.effect.specs.Effect.{Effect}
use Rattle.delay_line.proofs.Demand1 as delay1
use Rattle.delay_line.proofs.StaysSilent as delay-silent
use Rattle.delay_line.proofs.HearsBack as delay-ages
use Rattle.chorus.specs.Chorus.{chorus}
use Rattle.chorus.proofs.Demand1 as chorus1
use Rattle.chorus.proofs.StaysSilent as chorus-silent
use Rattle.chorus.proofs.HearsBack as chorus-ages
use Rattle.chorus.proofs.Demand3 as chorus3
use Rattle.chorus.proofs.Three as three
use Rattle.flanger.proofs.Demand1 as flanger1
use Rattle.flanger.proofs.StaysSilent as flanger-silent
use Rattle.flanger.proofs.HearsBack as flanger-ages
use Rattle.vibrato.specs.Vibrato.{vibrato}
use Rattle.vibrato.proofs.Demand1 as vibrato1
use Rattle.vibrato.proofs.StaysSilent as vibrato-silent
use Rattle.vibrato.proofs.HearsBack as vibrato-ages
use Rattle.vibrato.proofs.Demand3 as vibrato3
use Rattle.tremolo.specs.Tremolo.{tremolo}
use Rattle.tremolo.proofs.Demand1 as tremolo1
use Rattle.tremolo.proofs.StaysSilent as tremolo-silent
use Rattle.reverb.specs.Reverb.{reverb}
use Rattle.reverb.proofs.Demand1 as reverb1
use Rattle.reverb.proofs.StaysSilent as reverb-silent
use Rattle.phaser.specs.declared.Phaser.{Phaser}
use Rattle.phaser.specs.Phaser.{phaser, Tick, stages, next, chain_after}
use Rattle.phaser.proofs.Demand1 as phaser1
use Rattle.phaser.proofs.StaysSilent as phaser-silent
use Rattle.phaser.proofs.Idle.{x1-kept, y1-kept}
use Rattle.tape_delay.specs.TapeDelay as tape
use Rattle.tape_delay.proofs.Demand1 as tape1
use Rattle.tape_delay.proofs.HearsBack as tape-ages
use Rattle.delay_line.proofs.Narrow as delay-narrow
use Rattle.delay_line.proofs.Counts as delay-count
use Rattle.chorus.proofs.Narrow as chorus-narrow
use Rattle.chorus.proofs.Counts as chorus-count
use Rattle.flanger.proofs.Narrow as flanger-narrow
use Rattle.flanger.proofs.Counts as flanger-count
use Rattle.vibrato.proofs.Narrow as vibrato-narrow
use Rattle.vibrato.proofs.Counts as vibrato-count
use Rattle.tremolo.proofs.Narrow as tremolo-narrow
use Rattle.tremolo.proofs.Counts as tremolo-count
use Rattle.reverb.proofs.Narrow as reverb-narrow
use Rattle.reverb.proofs.Counts as reverb-count
use Rattle.phaser.proofs.Narrow as phaser-narrow
use Rattle.phaser.proofs.Counts as phaser-count
use Rattle.tape_delay.proofs.Narrow as tape-narrow
use Rattle.tape_delay.proofs.Counts as tape-count
use Rattle.guarantees.proofs.Places.{places-needed}
use Rattle.reverb.specs.Tunings.{lengths_at}
use Rattle.reverb.proofs.Used as reverb-used
use Rattle.guarantees.proofs.Cases.{starred-hold, reverb_at_8000, reverb_at_192000}
use Rattle.guarantees.proofs.Pairs.{tapes, tape-lamp}
use Rattle.guarantees.specs.CleanMemory.{CleanMemory}
use Rattle.guarantees.specs.RecentPasts.{RecentPasts}
use Rattle.guarantees.specs.WholePart.{WholePart}
use Rattle.guarantees.specs.OneLine.{OneLine}
use Rattle.guarantees.specs.IdleStages.{SameStage, IdleStages}
use Rattle.guarantees.specs.Ages.{Ageless, Ages}
use Rattle.guarantees.specs.Positions.{Positions}
use Rattle.guarantees.specs.CountedSilence.{CountedSilence}
use Rattle.guarantees.specs.Lamp.{as_it_is, under_rule, zero_as_it_is, zero_under_rule, Lamp}

pub clean-memory : CleanMemory
clean-memory =
    record {
      delay-lines = delay1.shown;
      choruses = chorus1.shown;
      flangers = flanger1.shown;
      vibratos = vibrato1.shown;
      tremolos = tremolo1.shown;
      reverbs = reverb1.shown;
      phasers = phaser1.shown;
      tapes = tape1.shown;
    }

pub recent-pasts : RecentPasts
recent-pasts =
    record {
      choruses = chorus3.shown3;
      vibratos = vibrato3.shown3;
      chorus-lists = covers chorus chorus1.laws (λ t s. refl);
      vibrato-lists = covers vibrato vibrato1.laws (λ t s. refl);
    }

pub whole_part : WholePart
whole_part =
    record {
      below_one = λ x h. let f = finite-parts x h.0 in fields.below_one x f.0 f.1 (yes h.1);
      between = λ x h. let f = finite-parts x h.0 in fields.between x f.0 f.1 (yes h.1);
      above = λ x h. let f = finite-parts x h.0 in fields.no_fraction x f.0 f.1 (yes h.1);
    }

pub one_line : OneLine
one_line =
    record {
      starts = three.start-alike;
      started = three.started-alike;
      calls = three.call-alike;
      runs = three.runs-alike;
      pasts = three.shown3;
      counts = three.three-counted;
      apart = three.apart;
    }

-- an accepted tick and a refused one
stages-kept : (t : Tick) (u : Device Phaser) (i : ℕ) → stages t ≤ i → (number : ℕ) → SameStage i u.state (if_none number (changed phaser (tick t) u) u).state
unfolding next chain_after
stages-kept t u i h zero =
    record {
      x1_l = λ none. sym (x1-kept t.coef_l _ i none (stages t) h);
      x1_r = λ none. sym (x1-kept t.coef_r _ i none (stages t) h);
      y1_l = λ none. sym (y1-kept t.coef_l _ i none (stages t) h);
      y1_r = λ none. sym (y1-kept t.coef_r _ i none (stages t) h);
    }
stages-kept t u i h (suc k) = record { x1_l = λ none. refl; x1_r = λ none. refl; y1_l = λ none. refl; y1_r = λ none. refl }

pub idle_stages : IdleStages
idle_stages = record { kept = λ t u i h. stages-kept t u i h (number_at phaser (tick t) u) }

-- ---- zero audio, as it is and under the input rule

as_it_is_zero : (p : Port) → is_zero (as_it_is p) ≡ zero_as_it_is p
unfolding eq
as_it_is_zero Unset = refl
as_it_is_zero (Set x) = refl

under_rule_zero : (p : Port) → is_zero (under_rule p) ≡ zero_under_rule p
unfolding eq
under_rule_zero Unset = refl
under_rule_zero (Set nan) = refl
under_rule_zero (Set (inf s)) = refl
under_rule_zero (Set (fin s m e)) = sym (or-false (is_zero (fin s m e)))

pub lamp : Lamp
lamp =
    record {
      delay-lines = record { input_is = λ t. refl; stays = delay-silent.shown };
      choruses = record { input_is = λ t. refl; stays = chorus-silent.shown };
      flangers = record { input_is = λ t. refl; stays = flanger-silent.shown };
      vibratos = record { input_is = λ t. refl; stays = vibrato-silent.shown };
      tremolos = record { input_is = λ t. refl; stays = tremolo-silent.shown };
      reverbs = record { input_is = λ t. refl; stays = reverb-silent.shown };
      phasers = record { input_is = λ t. refl; stays = phaser-silent.shown };
      tapes = tape-lamp;
      as_it_is_zero = as_it_is_zero;
      under_rule_zero = under_rule_zero;
    }

-- ---- ages

-- an effect whose ticks make no read
ageless : (E : Effect) → ((t : E.Tick) (s : E.State) → E.reads t s ≡ []) → Ageless E
ageless E none t h = if_none-both (λ r. reply_age r ≡ 0) (number_at E (tick t) h) (ap largest_age (none t h.state)) refl

pub ages : Ages
unfolding tape.reads
ages =
    record {
      delay-lines = delay-ages.shown;
      choruses = chorus-ages.shown;
      flangers = flanger-ages.shown;
      vibratos = vibrato-ages.shown;
      tapes = tape-ages.shown;
      tape_position = λ p s. (omega arith, tt);
      tremolos = ageless tremolo (λ t s. refl);
      reverbs = ageless reverb (λ t s. refl);
      phasers = ageless phaser (λ t s. refl);
      hears = read-weighs;
      weightless = weight-none;
      exact = λ M x h r. exact-weights M h (range-in (whole-ends M h) r);
    }

-- ---- positions

pub positions : Positions
positions =
    record {
      delay-lines = delay-narrow.shown;
      choruses = chorus-narrow.shown;
      flangers = flanger-narrow.shown;
      vibratos = vibrato-narrow.shown;
      tremolos = tremolo-narrow.shown;
      reverbs = reverb-narrow.shown;
      phasers = phaser-narrow.shown;
      tapes = tape-narrow.shown;
      of_delay = λ s. refl;
      of_chorus = λ s. refl;
      of_flanger = λ s. refl;
      of_vibrato = λ s. refl;
      of_tremolo = λ s. refl;
      of_reverb = λ s. refl;
      of_phaser = λ s. refl;
      of_tape_delay = λ s. refl;
    }

-- ---- the count

pub counted_silence : CountedSilence
unfolding eq neg of_bits
counted_silence =
    record {
      delay-lines = record { counts = delay-count.shown; used_is = λ k. omega arith; asked = λ n s. refl };
      choruses = record { counts = chorus-count.shown; used_is = λ k. omega arith; asked = λ n s. refl };
      flangers = record { counts = flanger-count.shown; used_is = λ k. omega arith; asked = λ n s. refl };
      vibratos = record { counts = vibrato-count.shown; used_is = λ k. omega arith; asked = λ n s. refl };
      reverbs = record { counts = reverb-count.shown; used_is = λ rate. reverb-used.used-is (lengths_at rate); asked = λ n s. refl };
      tapes = record { counts = tape-count.shown; used_is = λ k. omega arith; asked = λ n s. refl };
      tremolos = record { counts = tremolo-count.shown; used_is = λ k. refl; asked = λ n s. refl };
      phasers = record { counts = phaser-count.shown; used_is = λ k. refl; asked = λ n s. refl };
      of_delay = λ s. refl;
      of_chorus = λ s. refl;
      of_flanger = λ s. refl;
      of_vibrato = λ s. refl;
      of_reverb = λ s. refl;
      of_tape_delay = λ s. refl;
      zero_counts_none = refl;
      minus_zero_counts_none = refl;
      nan_counts = refl;
      infinity_counts = refl;
      subnormal_counts = refl;
      net_at_0 = refl;
      net_at_all = refl;
      held_at_0 = refl;
      held_at_all = refl;
      reverb_at_8000 = reverb_at_8000;
      reverb_at_192000 = reverb_at_192000;
    }

-- what the functions' contracts say
pub ruleset statements = (clean-memory, recent-pasts, places-needed, starred-hold, whole_part, one_line, idle_stages, lamp, ages, tapes, positions, counted_silence)
