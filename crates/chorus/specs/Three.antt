-- The chorus with three lines, one for each voice, as the Rust has it, for comparison with ours (document 02, A.4); no code has it. It is the chorus of
-- Chorus.antt but for what goes by the lines. And when a chorus with one line and one with three correspond. Definitions only. Assumes nothing.
use Rattle.std.specs.Prelude.{ℕ, ◌*◌, ◌<◌, ◌≡◌, Bool, List, length, take, drop, Float}
use Rattle.common.specs.Reads.{Read}
use Rattle.effect.specs.Parts.{Part, first_places}
use Rattle.effect.specs.Effect.{Effect, Write, recount}
use Rattle.effect.specs.Lines.{Lines, in_each, line_of}
use Rattle.effect.specs.Run.{Device}
use Rattle.chorus.specs.declared.Chorus.{Chorus}
use Rattle.chorus.specs.Chorus.{Tick, chorus, line_length, Phases, phases_of, fits_with, input, samples_from, reads_from, next_counted}
use Rattle.chorus.specs.Chorus as one

-- the lines follow each other from place 0
abbrev pub places : Float → ℕ
places rate = 3 * line_length rate

-- all three are in use
abbrev pub parts : Float → List Part
parts rate = first_places (places rate)

abbrev pub state_fits : Chorus → Bool
state_fits s = fits_with (places s.sample_rate) s

-- each voice reads its own line
abbrev pub samples : Tick → Chorus → List Float → List Float
samples t s m = samples_from (λ i. i * line_length s.sample_rate) t s m

abbrev pub reads : Tick → Chorus → List Read
reads t s = reads_from (λ i. i * line_length s.sample_rate) t s

-- line i by itself, as places
abbrev pub line_alone : ℕ → Chorus → List Float → List Float
line_alone i s m = let L = line_length s.sample_rate in take L (drop (i * L) m)

-- the audio goes into each line at the position
unfoldable pub writes : Tick → Chorus → List Write
writes t s = in_each 3 0 (line_length s.sample_rate) s.write_pos (input t)

-- the count goes by what the three stores change together
abbrev pub next : Tick → Chorus → List Float → Chorus
next t s m = next_counted (recount (parts s.sample_rate) (writes t s) m s.nonzero_places) t s

abbrev pub three_lined : Effect
three_lined =
    record {
      State = chorus.State;
      Settings = chorus.Settings;
      Start = chorus.Start;
      Retune = chorus.Retune;
      Tick = chorus.Tick;
      state_fits = state_fits;
      settings = chorus.settings;
      start_settings = chorus.start_settings;
      retune_settings = chorus.retune_settings;
      settings_number = chorus.settings_number;
      places = places;
      parts = parts;
      turn_number = chorus.turn_number;
      tick_number = chorus.tick_number;
      blank = chorus.blank;
      fresh = chorus.fresh;
      retuned = chorus.retuned;
      next = next;
      writes = λ t s m. writes t s;
      samples = samples;
      reads = reads;
      input = chorus.input;
      quiet = chorus.quiet;
      count = chorus.count;
    }

-- its lines, for the recent pasts
abbrev pub lines : Lines three_lined
lines =
    record {
      count = 3;
      line_length = line_length;
      position = (one.lines).position;
      sample = input;
      Phase = Phases;
      phase = phases_of;
    }

-- ---- h has one line, g three

pub record Corresponds (h g : Device Chorus) : Type 0 where
  pub position : g.state.write_pos ≡ h.state.write_pos
  pub phases : phases_of g.state ≡ phases_of h.state
  pub rate : g.state.sample_rate ≡ h.state.sample_rate
  -- three times as many places that are neither +0 nor −0, as the states count them
  pub count : g.state.nonzero_places ≡ 3 * h.state.nonzero_places
  -- three times as many places, so that a memory is too short for the one exactly where the other's is
  pub lent : length g.memory ≡ 3 * length h.memory
  -- each of the three lines is the one line
  pub lines : (i : ℕ) → i < lines.count → line_of three_lined lines i g ≡ line_of chorus one.lines 0 h
