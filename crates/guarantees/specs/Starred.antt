-- The starred bench cases of document 01: one list, and what it is for a case of each kind to hold, by the definitions that the contracts cite.
-- Definitions only. Assumes nothing.
use Rattle.std.specs.Prelude.{ℕ, ◌*◌, ◌≡◌, true, false, List, [], ◌∷◌, pos, get_or, replicate, Float}
use Rattle.std.specs.Float.{nan, inf, fin}
use Rattle.std.specs.Float.Ieee.{neg}
use Rattle.float64.specs.Number.{plus_zero, float_of, fraction, half}
use Rattle.port.specs.declared.Port.TheVariants.{Set, Unset}
use Rattle.port.specs.Answer.{played}
use Rattle.common.specs.Signal.{sanitized}
use Rattle.common.specs.Line.{place, line_at, read_at}
use Rattle.common.specs.Reads.{age_at}
use Rattle.effect.specs.Run.{CallOf, tick, start, reply, replies}
use Rattle.delay_line.specs.DelayLine as delay
use Rattle.tremolo.specs.Tremolo as trem
use Rattle.reverb.specs.Freeverb.{combed, pass_output, pass_fed}
use Rattle.reverb.specs.Tunings.{Side, left, right, predelay_size, ratio, spread, comb_lengths, allpass_lengths}
use Rattle.reverb.specs.Reverb as rev
use Rattle.needed.specs.Needed.{needed_by}

pub data Case : Type 0 where
  -- an effect's number, a rate and a maximum; the places needed
  needs : ℕ → Float → Float → ℕ → Case
  -- a rate, a side and a comb or an all-pass, counted from 0; its length
  comb-length : Float → Side → ℕ → ℕ → Case
  allpass-length : Float → Side → ℕ → ℕ → Case
  -- a rate; the spread
  spread_at : Float → ℕ → Case
  -- a distance in places 10, 20, 30, 40 with write position 1; what is read, and its age
  reads : Float → Float → ℕ → Case
  -- audio; what the input rule makes of it
  enters : Float → Float → Case
  -- audio of two ticks of a linear delay with coefficient 0, time 0, feedback 0, mix 1; the two samples answered, and how many ticks back each lay
  delays : Float → Float → Float → Float → ℕ → Case
  -- the shape in a tremolo's tick with audio 4, phase 0, sine 0, depth 1; the sample answered
  trembles : Float → Float → Case
  -- a comb's place, store, damping, feedback and input; what it answers, its next store, what it writes
  combs : Float → Float → Float → Float → Float → Float → Float → Float → Case
  -- an all-pass's place and input; what it answers and writes
  passes : Float → Float → Float → Float → Case
  -- a position of the predelay and samples back; the place
  lies : ℕ → ℕ → ℕ → Case
  -- a predelay control and a rate; the delay in samples
  waits : Float → Float → ℕ → Case

-- ---- what it is for a case to hold

-- at 8,000, with a maximum of a millisecond, in memory that held NaN; the milliseconds are not read
abbrev pub delay_tick : Float → CallOf delay.delay_line
delay_tick audio = tick (delay.tick_of (Set audio) (Set plus_zero) (Set plus_zero) (Set (float_of 1)) nan)

abbrev pub Holds : Case → Type 0
Holds (needs effect rate maximum n) = needed_by effect rate maximum ≡ n
Holds (comb-length rate side i n) = get_or (comb_lengths side rate) i 0 ≡ n
Holds (allpass-length rate side i n) = get_or (allpass_lengths side rate) i 0 ≡ n
Holds (spread_at rate n) = spread (ratio rate) ≡ n
Holds (reads distance x age) =
    (read_at (line_at 0 4 1 (float_of 10 ∷ float_of 20 ∷ float_of 30 ∷ float_of 40 ∷ [])) distance ≡ x) × (age_at distance ≡ age)
Holds (enters audio x) = sanitized audio ≡ x
Holds (delays x y a b age) =
    replies delay.delay_line (delay_tick x ∷ delay_tick y ∷ []) (start delay.delay_line (delay.handing (float_of 8000) plus_zero (fraction 1 1000) true) (replicate 9 nan))
    ≡ played (a ∷ []) age ∷ played (b ∷ []) age ∷ []
Holds (trembles shape x) =
    reply trem.tremolo (tick (trem.tick_of (Set (float_of 4)) (Set (float_of 1)) (Set shape) (float_of 1) plus_zero)) (record { state = trem.fresh (float_of 44100); memory = [] })
    ≡ played (x ∷ []) 0
Holds (combs held store damping feedback input answer store' written) =
    combed held store input damping feedback ≡ record { output = answer; filter_state = store'; fed = written }
Holds (passes held input answer written) = (pass_output input held ≡ answer) × (pass_fed input held ≡ written)
Holds (lies w d p) = place predelay_size w d ≡ p
Holds (waits control rate n) = rev.delay_by (rev.controls_of (rev.tick_of Unset Unset Unset Unset (Set control))) rate ≡ n

abbrev pub AllHold : List Case → Type 0
AllHold [] = Unit {0}
AllHold (c ∷ cs) = Holds c × AllHold cs

-- ---- the set

abbrev pub starred : List Case
starred =
    needs 2 (float_of 44100) nan 1421
    ∷ needs 2 (float_of 8000) nan 266
    ∷ needs 3 (float_of 44100) nan (2 * 451)
    ∷ needs 4 (float_of 44100) nan 892
    ∷ needs 1 (float_of 44100) (float_of 2) 88201
    ∷ needs 1 (float_of 8000) (fraction 1 1000) 9
    ∷ comb-length (float_of 22050) left 0 558
    ∷ allpass-length (float_of 22050) left 1 220
    ∷ spread_at (float_of 22050) 12
    ∷ comb-length (float_of 192000) left 0 4095
    ∷ comb-length (float_of 192000) right 0 4095
    ∷ reads (float_of 1) (float_of 10) 1
    ∷ reads (fraction 5 2) (float_of 35) 3
    ∷ reads (float_of 3) (float_of 30) 3
    ∷ enters nan plus_zero
    ∷ enters (inf false) plus_zero
    ∷ enters (fin true 0 (pos 0)) (fin true 0 (pos 0))
    ∷ delays (float_of 3) (float_of 7) plus_zero (float_of 3) 1
    ∷ trembles plus_zero (float_of 2)
    ∷ trembles (float_of 1) plus_zero
    ∷ combs (float_of 4) plus_zero (fraction 1 4) half (float_of 1) (float_of 4) (float_of 3) (fraction 5 2)
    ∷ passes (float_of 1) (float_of 2) (neg (float_of 1)) (fraction 5 2)
    ∷ lies 3 5 9598
    ∷ waits (float_of 1) (float_of 96000) 9599
    ∷ []

pub record Starred : Type 0 where
  pub hold : AllHold starred
