-- `Lent::tick`: causes 4 and 3, then the ports' numbers, cause 5, then the tick. Assumes nothing.
use Rattle.std.proofs.Common.{◌≡◌, ℕ, Bool, true, false, not, ◌&&◌, ◌||◌, leb, List, length, refl, sym, ap, ◌∙◌, arith}
use lib.Ieee.{Float, round, is_nan}
use lib.Ieee as Ieee
use Rattle.float64.specs.Number.{plus_zero, half, is_number}
use Rattle.port.specs.declared.Refusal.{Refusal}
use Rattle.port.specs.Answer.{Reply, number, refused, played}
use Rattle.port.proofs.Laws.{nan_is, number-some}
use Rattle.common.specs.Signal.{cause_number}
use Rattle.effect.specs.Effect.{laid}
use Rattle.effect.specs.Run.{tick, memory_number, number_in}
use Rattle.effect.specs.Contract.{Does}
use Rattle.effect.proofs.Contract.{refuses, accepts, state-refused, tick-memory, tick-number}
use Rattle.reverb.specs.declared.tunings.Lengths.{Lengths}
use Rattle.reverb.specs.declared.tick.Controls.{Controls}
use Rattle.reverb.specs.declared.Reverb.{Reverb}
use Rattle.reverb.specs.Tunings.{lengths_at, lengths_for}
use Rattle.reverb.specs.Tank.{tank_size, positions_fit}
use Rattle.reverb.specs.Reverb.{reverb, Tick, controls_of, lent_state, state_fits, tick_number, next, writes, samples, Advances}
use Rattle.reverb.proofs.Scaling.{lengths-are}
use Rattle.reverb.proofs.Laws.{fits_by, fits-parts}
use Rattle.reverb.proofs.Lent.tick.Goals as goal

-- the lengths n are those for the rate of the state s
module _ (s : Reverb) {n : Lengths} (found : n ≡ lengths_for s.sample_rate) where
  abbrev fit : Bool
  fit = positions_fit s.comb_pos_l s.comb_pos_r s.allpass_pos_l s.allpass_pos_r s.predelay_pos n && leb s.nonzero_places n.used

  passed : true ≡ fit → state_fits s ≡ true
  passed e = sym (e ∙ fits_by s found)

  long : true ≡ fit → n ≡ lengths_at s.sample_rate
  long e = lengths-are s.sample_rate (fits-parts s (passed e)).rate found

-- and m is the memory, and t what the tick is handed
module _ (s : Reverb) (m : List Float) (t : Tick) {n : Lengths} (found : n ≡ lengths_for s.sample_rate) where
  unfit : false ≡ fit s found → Does reverb (tick t) s m s m (refused 4)
  unfit e = refuses reverb (tick t) s m 4 (state-refused reverb (length m) s (tick t) (sym (e ∙ fits_by s found))) (omega arith)

  short : (cause : Refusal) → true ≡ fit s found → number cause ≡ memory_number tank_size (length m) → Does reverb (tick t) s m s m (refused (number cause))
  short cause e k =
      refuses reverb (tick t) s m (number cause) (tick-memory reverb (length m) s t (passed s found e) k (number-some cause)) (number-some cause)

  -- past causes 4 and 3, with the ports' numbers v
  module _ {v : Controls} {a b c d : Bool} (e : true ≡ fit s found) (room : ◌≡◌ {A = ℕ} 0 (memory_number tank_size (length m))) (taken : v ≡ controls_of t) (size : a ≡ not (is_number v.size)) (damping : b ≡ not (is_number v.damping)) (mix : c ≡ not (is_number v.mix)) (predelay : d ≡ not (is_number v.predelay)) where
    number_is : (k : ℕ) → k ≡ cause_number (a || (b || (c || d))) true → k ≡ number_in reverb (tick t) (length m) s
    unfolding tick_number is_number Ieee.fits is_nan round
    number_is k h =
        let size = nan_is t.size half refl (ap (λ (v : Controls). v.size) taken) size in
        let damping = nan_is t.damping half refl (ap (λ (v : Controls). v.damping) taken) damping in
        let mix = nan_is t.mix half refl (ap (λ (v : Controls). v.mix) taken) mix in
        let predelay = nan_is t.predelay plus_zero refl (ap (λ (v : Controls). v.predelay) taken) predelay in
        tick-number reverb (length m) s t (passed s found e) room (h ∙ (λ i. cause_number (size i || (damping i || (mix i || predelay i))) true))

    unheard : (cause : Refusal) → number cause ≡ cause_number (a || (b || (c || d))) true → Does reverb (tick t) s m s m (refused (number cause))
    unheard cause h = refuses reverb (tick t) s m (number cause) (number_is (number cause) h) (number-some cause)

    ticks : {s' : Reverb} {m' : List Float} {r : Reply} → 0 ≡ cause_number (a || (b || (c || d))) true → Advances v s m s' m' r → Does reverb (tick t) s m s' m' r
    ticks h w =
        accepts reverb (tick t) s m
        (sym (number_is 0 h))
        (w.state ∙ (λ i. next (taken i) s m))
        (w.memory ∙ (λ i. laid (writes (taken i) s m) m))
        (w.answer ∙ (λ i. played (samples (taken i) s m) 0))

pub returns-then-not-fits-clause-does : goal.returns-then-not-fits-clause-does
returns-then-not-fits-clause-does c = unfit (lent_state c.args.self.now) _ _ c.lengths_at-n.ensures c.if-not-fits.ensures

pub returns-in-Err-clause-does : goal.returns-in-Err-clause-does
returns-in-Err-clause-does c = short (lent_state c.args.self.now) _ _ c.lengths_at-n.ensures c.in-Err.cause c.if-not-fits.ensures c.in-Err.ensures

pub returns-in-Err-causes-clause-does : goal.returns-in-Err-causes-clause-does
returns-in-Err-causes-clause-does c =
    unheard (lent_state c.args.self.now) _ _ c.lengths_at-n.ensures c.if-not-fits.ensures c.in_default.ensures c.controls_of-c.ensures c.is_nan.ensures c.is_nan-2.ensures
    c.is_nan-3.ensures c.is_nan-4.ensures c.in-Err-causes.cause c.in-Err-causes.ensures

pub advance-requires-clause-n_value : goal.advance-requires-clause-n_value
advance-requires-clause-n_value c = long (lent_state c.args.self.now) c.lengths_at-n.ensures c.if-not-fits.ensures

pub advance-requires-clause-unit_fits : goal.advance-requires-clause-unit_fits
advance-requires-clause-unit_fits c = passed (lent_state c.args.self.now) c.lengths_at-n.ensures c.if-not-fits.ensures

pub returns-clause-does : goal.returns-clause-does
returns-clause-does c =
    ticks (lent_state c.args.self.now) _ _ c.lengths_at-n.ensures c.if-not-fits.ensures c.in_default.ensures c.controls_of-c.ensures c.is_nan.ensures c.is_nan-2.ensures
    c.is_nan-3.ensures c.is_nan-4.ensures c.in_default-causes.ensures c.advance.ensures.advances
