-- `DelayLine::nan_refusal` is the whole row of a tick: causes 4 and 3, then 5 and 6. Assumes nothing.
use Rattle.std.proofs.Common.{sym, ap, ◌∙◌, not, ◌&&◌, ◌||◌}
use Rattle.float64.specs.Number.{is_number}
use mathlib.Core.Bool.{not-not}
use Rattle.port.specs.declared.Port.TheVariants.{Set, Unset}
use Rattle.common.specs.Signal.{cause_number}
use Rattle.effect.specs.Run.{reset}
use Rattle.effect.proofs.Table.{accepted}
use Rattle.effect.proofs.Contract.{tick-number}
use Rattle.delay_line.specs.DelayLine.{delay_line, tick_of, tick_number}
use Rattle.delay_line.proofs.DelayLine.nan_refusal.Goals as goal

pub returns : goal.returns
unfolding tick_number
returns c =
    let a = c.args in
    let linear = a.self.linear_time in
    let u = accepted delay_line a.places reset a.self (sym c.in_ok-checked.ensures.number) in
    let ms = ap not c.is_nan-4.ensures ∙ not-not (is_number a.milliseconds) in
    tick-number delay_line a.places a.self (tick_of Unset (Set a.time) (Set a.feedback) (Set a.mix) a.milliseconds) u.state_fits (sym u.number)
    (c.tick_causes.ensures ∙ (λ i. cause_number (linear && c.is_nan.ensures i || (c.is_nan-2.ensures i || c.is_nan-3.ensures i)) (linear || ms i)))
