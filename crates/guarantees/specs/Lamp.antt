-- What a lamp that shows "silent" is for. Of every run of any effect, whatever the memory held before its start: where "silent?" is answered "silent", and all audio after
-- it is zero and the controls are accepted, every sample that is answered is +0 or −0, and the question is answered "silent" again (of the tape delay after both halves of
-- a tick); and so it is along every list of such ticks with questions, refused calls, retunes and resets among them. The question is answered by the count (`CountedSilence`).
-- By the full reading of the places the same is said of every unit, in a run or handed in. What `StaysSilent` says is in effect/specs/StaysSilent.antt, of the
-- definitions that the contracts of the calls cite. Definitions only. Assumes nothing.
use Rattle.std.specs.Prelude.{◌≡◌, Bool, true, false, not, ◌||◌, [], ◌∷◌, Float}
use Rattle.std.specs.Float.Ieee.Scale.{finite}
use Rattle.float64.specs.Number.{plus_zero, is_zero, saturated_fits}
use Rattle.port.specs.declared.Port.{Port}
use Rattle.port.specs.declared.Port.TheVariants.{Set, Unset}
use Rattle.port.specs.Port.{value_or}
use Rattle.port.specs.Answer.{silent}
use Rattle.common.specs.Signal.{sanitized}
use Rattle.effect.specs.Effect.{Effect}
use Rattle.effect.specs.Run.{tick, ask, Device, number_at, is_silent, reply, after, replies, Run, final}
use Rattle.effect.specs.StaysSilent.{StaysSilent, Silence, StaysCalm, all_play_zeros}
use Rattle.delay_line.specs.DelayLine.{delay_line}
use Rattle.chorus.specs.Chorus.{chorus}
use Rattle.flanger.specs.Flanger.{flanger}
use Rattle.vibrato.specs.Vibrato.{vibrato}
use Rattle.tremolo.specs.Tremolo.{tremolo}
use Rattle.reverb.specs.Reverb.{reverb}
use Rattle.phaser.specs.Phaser.{phaser}
use Rattle.tape_delay.specs.declared.TapeDelay.{TapeDelay}
use Rattle.tape_delay.specs.TapeDelay.{Ports, read_half, store_half, tape_delay, calm}

-- ---- what a tick takes from its audio port: the number as it is, +0 if there is none; or that under the input rule

abbrev pub as_it_is : Port → Float
as_it_is p = value_or p plus_zero

abbrev pub under_rule : Port → Float
under_rule p = sanitized (as_it_is p)

-- which ports are zero audio then: unset, +0 or −0; under the rule also a NaN and the infinities
abbrev pub zero_as_it_is : Port → Bool
zero_as_it_is Unset = true
zero_as_it_is (Set x) = is_zero x

abbrev pub zero_under_rule : Port → Bool
zero_under_rule Unset = true
zero_under_rule (Set x) = is_zero x || not (finite x)

-- ---- each effect, by the port that has its audio and by what it takes from it

pub record SilentUnits (E : Effect) (audio : E.Tick → Port) (taken : Port → Float) : Type 0 where
  pub input_is : (t : E.Tick) → E.input t ≡ taken (audio t)
  pub stays : StaysSilent E

-- The tape delay, whose tick comes in two halves: of a silent unit that is given zero audio and handed zeros. A read half leaves it waiting, which is not silent; calm,
-- which stays, is the unit whose kept audio and kept read are zeros, and whose places are.
pub record SilentTapes : Type 0 where
  pub input_is : (p : Ports) → tape_delay.input (read_half p) ≡ under_rule p.audio
  pub handed_is : (v : Float) → tape_delay.input (store_half v) ≡ v
  pub silence : Silence tape_delay
  pub stays : StaysCalm tape_delay calm
  -- a unit in which a read waits is not silent, and the question says so, whatever the count
  pub waits : (h : Device TapeDelay) → h.state.waiting ≡ true → is_silent tape_delay h ≡ false
  pub waits-told : (h : Device TapeDelay) → number_at tape_delay ask h ≡ 0 → h.state.waiting ≡ true → reply tape_delay ask h ≡ silent false
  -- After both halves of a tick the unit is silent, and both have answered zeros. A store half takes the zero that is handed in where that is an f64.
  pub pairs : (p : Ports) (v : Float) (h : Device TapeDelay) → is_silent tape_delay h ≡ true → is_zero (under_rule p.audio) ≡ true → is_zero v ≡ true → saturated_fits v ≡ true
      → number_at tape_delay (tick (read_half p)) h ≡ 0
      → let cs = tick (read_half p) ∷ tick (store_half v) ∷ [] in
      (all_play_zeros (replies tape_delay cs h) ≡ true) × (is_silent tape_delay (after tape_delay cs h) ≡ true)
  -- So after a run that is answered "silent": both halves answer zeros, and the question after the store half is answered "silent" again.
  pub pairs_on_runs : (p : Ports) (v : Float) (x : Run tape_delay) → reply tape_delay ask (final tape_delay x) ≡ silent true
      → is_zero (under_rule p.audio) ≡ true → is_zero v ≡ true → saturated_fits v ≡ true
      → number_at tape_delay (tick (read_half p)) (final tape_delay x) ≡ 0
      → let cs = tick (read_half p) ∷ tick (store_half v) ∷ [] in
      (all_play_zeros (replies tape_delay cs (final tape_delay x)) ≡ true) × (reply tape_delay ask (after tape_delay cs (final tape_delay x)) ≡ silent true)

pub record Lamp : Type 0 where
  pub delay-lines : SilentUnits delay_line (λ t. t.audio) under_rule
  pub choruses : SilentUnits chorus (λ t. t.audio) under_rule
  pub flangers : SilentUnits flanger (λ t. t.audio) under_rule
  pub vibratos : SilentUnits vibrato (λ t. t.audio) as_it_is
  pub tremolos : SilentUnits tremolo (λ t. t.audio) as_it_is
  pub reverbs : SilentUnits reverb (λ t. t.audio) under_rule
  pub phasers : SilentUnits phaser (λ t. t.audio) under_rule
  pub tapes : SilentTapes
  -- zero audio, by the port
  pub as_it_is_zero : (p : Port) → is_zero (as_it_is p) ≡ zero_as_it_is p
  pub under_rule_zero : (p : Port) → is_zero (under_rule p) ≡ zero_under_rule p
