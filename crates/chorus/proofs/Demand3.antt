-- Demand 3 (docs/DEMANDS.md) for two choruses, by the laws of their line: it is the recent past, and what a voice reads is worked out from it. Assumes nothing.
use Prim.Native.Nat.{ℕ, ◌-◌, ◌<◌}
use native.Mathlib.Omega.{arith}
use native.Mathlib.Nat.{one-mul, zero-mul}
use mathlib.Core.Path.{◌≡◌, refl, sym, ap, ◌∙◌}
use mathlib.Core.Bool.{true}
use mathlib.Core.List.{List}
use lib.Ieee.{Float, is_nan, round}
use lib.Ieee as Ieee
use Rattle.float64.specs.Number.{half, is_number, rate_fits, sine_fits}
use Rattle.float64.proofs.Parts.{parts-of}
use Rattle.common.specs.Line.{newest_first}
use Rattle.common.proofs.Ring.{read_line, read-line}
use Rattle.common.proofs.Sweep.{control-in}
use Rattle.effect.specs.Run.{device_of, Run}
use Rattle.effect.specs.Lines.{line_of}
use Rattle.effect.specs.Demand3.{Demand3}
use Rattle.effect.proofs.LineLaws.{LineLaws}
use Rattle.effect.proofs.Demand3.{demand-3}
use Rattle.chorus.specs.declared.Chorus.{Chorus}
use Rattle.chorus.specs.Chorus.{Tick, chorus, lines, line_length, tick_number, depth, input, mix, distance, voice, mixed, samples_from, next_phases, writes, next_counted}
use Rattle.chorus.proofs.Laws.{fits-parts, length-fits, tick-fits, distance-in, voices_age, voices-age}
use Rattle.chorus.proofs.Demand1.{laws}

-- ---- the laws of lines

-- what a voice with this sine reads where its line, read newest to largest_age, is l
abbrev pub heard : Tick → Float → Float → List Float → Float
heard t rate sine l = read_line l (distance rate (depth t) sine)

-- its line begins at place o
voice-heard : (t : Tick) (s : Chorus) (m l : List Float) → rate_fits s.sample_rate ≡ true → tick_number t ≡ 0 → (o : ℕ) (sine : Float) → sine_fits sine ≡ true
    → newest_first o (line_length s.sample_rate) s.write_pos m ≡ l
    → voice o sine t s m ≡ heard t s.sample_rate sine l
unfolding voice is_number Ieee.fits is_nan round
voice-heard t s m l h n o sine k g =
    let rate = s.sample_rate in
    let L = line_length rate in
    let some = length-fits rate h in
    let d = parts-of (L - 1) (omega arith) (distance-in rate (depth t) sine h (control-in t.depth half (tick-fits t n).depth refl) k) in
    read-line o L s.write_pos m (distance rate (depth t) sine) d.at_least (omega (arith, d.at-most)) ∙ ap (λ (q : List Float). read_line q (distance rate (depth t) sine)) g

-- what a tick at the rate answers where each voice's line is l
abbrev pub heard_all : Tick → Float → List Float → List Float
heard_all t rate l = mixed (input t) (mix t) (heard t rate t.sine0 l) (heard t rate t.sine1 l) (heard t rate t.sine2 l)

-- wherever the lines begin
pub plays : (begin : ℕ → ℕ) (t : Tick) (s : Chorus) (m l : List Float) → rate_fits s.sample_rate ≡ true → tick_number t ≡ 0
    → ((i : ℕ) → i < 3 → newest_first (begin i) (line_length s.sample_rate) s.write_pos m ≡ l)
    → samples_from begin t s m ≡ heard_all t s.sample_rate l
unfolding samples_from
plays begin t s m l h n g =
    let f = tick-fits t n in
    let heard-from = voice-heard t s m l h n in
    λ j. mixed
    (input t)
    (mix t)
    (heard-from (begin 0) t.sine0 f.sine0 (g 0 (omega arith)) j)
    (heard-from (begin 1) t.sine1 f.sine1 (g 1 (omega arith)) j)
    (heard-from (begin 2) t.sine2 f.sine2 (g 2 (omega arith)) j)

-- which they do at place 0
pub from-0 : (s : Chorus) (m : List Float) → newest_first 0 (line_length s.sample_rate) s.write_pos m ≡ line_of chorus lines 0 (device_of s m)
from-0 s m = let L = line_length s.sample_rate in ap (λ (o : ℕ). newest_first o L s.write_pos m) (sym (zero-mul L))

pub line-laws : LineLaws chorus lines
unfolding next_counted writes
line-laws =
    record {
      in_turn = λ t s. refl;
      some = omega arith;
      fills = λ k. sym (one-mul (line_length k));
      inside = λ s e. (fits-parts s e).inside;
      stores = λ t s m. refl;
      next-position = λ t s m. refl;
      advanced = λ t rate p. next_phases t.frequency rate p;
      next-phase = λ t s m. refl;
      played = λ t rate p l. heard_all t rate l;
      plays = λ t s m l e r n g. plays (λ i. 0) t s m l (fits-parts s e).rate n (λ i h. from-0 s m ∙ g 0 (omega arith));
      age = voices_age;
      ages = voices-age (λ i. 0);
    }

-- ---- the demand

pub shown3 : (x y : Run chorus) → Demand3 chorus lines x y
shown3 = demand-3 chorus lines laws line-laws
