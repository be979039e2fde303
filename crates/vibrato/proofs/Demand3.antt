-- Demand 3 (docs/DEMANDS.md) for two vibratos, by the laws of their line: it is the recent past, and what a tick plays is worked out from it. Assumes nothing.
use Prim.Native.Nat.{◌-◌, ◌*◌}
use native.Mathlib.Omega.{arith}
use native.Mathlib.Nat.{one-mul, zero-mul}
use mathlib.Core.Path.{◌≡◌, refl, sym, ap}
use mathlib.Core.Bool.{true}
use mathlib.Core.List.{List, [], ◌∷◌}
use lib.Ieee.{Float, binary64, div, is_nan, round}
use lib.Ieee as Ieee
use Rattle.float64.specs.Number.{half, is_number}
use Rattle.common.specs.Signal.{blended, advanced}
use Rattle.common.specs.Line.{newest_first}
use Rattle.common.specs.Reads.{age_at}
use Rattle.common.proofs.Ages.{oldest-one}
use Rattle.common.proofs.Ring.{read_line}
use Rattle.common.proofs.Sweep.{control-in}
use Rattle.float64.proofs.Parts.{parts-of}
use Rattle.effect.specs.Run.{Run}
use Rattle.effect.specs.Demand3.{Demand3}
use Rattle.effect.proofs.LineLaws.{LineLaws}
use Rattle.effect.proofs.Lines.{read_of}
use Rattle.effect.proofs.Demand3.{demand-3}
use Rattle.vibrato.specs.declared.Vibrato.{Vibrato}
use Rattle.vibrato.specs.Vibrato.{Tick, vibrato, lines, state_fits, line_length, tick_number, input, depth, mix, distance, read, delayed, next_counted, next, writes, samples}
use Rattle.vibrato.proofs.Laws.{fits-parts, length-fits, tick-fits, distance-in}
use Rattle.vibrato.proofs.Demand1.{laws}

-- what a tick at the rate answers where the line, read newest to largest_age, is l
abbrev heard : Tick → Float → List Float → List Float
heard t rate l = blended (input t) (read_line l (distance rate (depth t) t.sine)) (mix t) ∷ []

plays : (t : Tick) (s : Vibrato) (m l : List Float) → state_fits s ≡ true → tick_number t ≡ 0
    → newest_first (0 * line_length s.sample_rate) (line_length s.sample_rate) s.write_pos m ≡ l
    → samples t s m ≡ heard t s.sample_rate l
unfolding samples delayed is_number Ieee.fits is_nan round
plays t s m l f n e =
    let rate = s.sample_rate in
    let h = (fits-parts s f).rate in
    let k = tick-fits t n in
    let some = length-fits rate h in
    let d = parts-of (line_length rate - 1) (omega arith) (distance-in rate (depth t) t.sine h (control-in t.depth half k.depth refl) k.sine) in
    ap (λ (x : Float). blended (input t) x (mix t) ∷ [])
    (read_of 0 0 (line_length rate) s.write_pos m l (distance rate (depth t) t.sine) (zero-mul (line_length rate)) e d.at_least (omega (arith, d.at-most)))

pub line-laws : LineLaws vibrato lines
unfolding next_counted writes
line-laws =
    record {
      in_turn = λ t s. refl;
      some = omega arith;
      fills = λ k. sym (one-mul (line_length k));
      inside = λ s e. (fits-parts s e).inside;
      stores = λ t s m. refl;
      next-position = λ t s m. refl;
      advanced = λ t rate phase. advanced phase (div binary64 t.frequency rate);
      next-phase = λ t s m. refl;
      played = λ t rate phase l. heard t rate l;
      plays = λ t s m l f r n e. plays t s m l f n (e 0 (omega arith));
      age = λ t rate. age_at (distance rate (depth t) t.sine);
      ages = λ t s. oldest-one (read t s);
    }

pub shown3 : (x y : Run vibrato) → Demand3 vibrato lines x y
shown3 = demand-3 vibrato lines laws line-laws
