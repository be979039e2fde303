-- `tunings::scale` works out the left and right lengths of the lines with these tunings, one after the other. Assumes nothing.
use Rattle.std.proofs.Common.{◌≡◌, ℕ, length, ap, ◌∙◌, arith}
use Rattle.std.proofs.Math.ListN.{length-replicate}
use Rattle.common.proofs.Tables.{tabled-none, tabled-more, tabled-all, table-map}
use Rattle.reverb.specs.Tunings.{scaled, beside}
use Rattle.reverb.proofs.Scaling.{tuned-at}
use Rattle.reverb.proofs.tunings.scale.Goals as goal

pub loop-i-init : goal.loop-i-init
loop-i-init g c = record { left = tabled-none _ _; right = tabled-none _ _ }

pub scaled-n-requires-clause-least_tuning_le_base : goal.scaled-n-requires-clause-least_tuning_le_base
scaled-n-requires-clause-least_tuning_le_base g c = (tuned-at c.args.tunings c.loop-i.i c.requires.all_tuned (omega arith)).0

pub scaled-n-requires-clause-base_le_most_tuning : goal.scaled-n-requires-clause-base_le_most_tuning
scaled-n-requires-clause-base_le_most_tuning g c = (tuned-at c.args.tunings c.loop-i.i c.requires.all_tuned (omega arith)).1

pub loop-i-preserved : goal.loop-i-preserved
loop-i-preserved g c =
    let l = c.loop-i in
    let a = c.args in
    let n = c.scaled-n.ensures in
    record {
      left = tabled-more _ l.i _ (omega (arith, length-replicate {A = ℕ})) l.invariant.left n;
      right = tabled-more _ l.i _ (omega (arith, length-replicate {A = ℕ})) l.invariant.right (c.beside.ensures ∙ ap (λ (k : ℕ). beside a.most a.wide k) n);
    }

pub returns-clause-left : goal.returns-clause-left
returns-clause-left g c =
    let t = c.args.tunings in
    let e : c.loop-i.i ≡ length t = omega arith in
    rw e at c.loop-i.invariant.left ∙ tabled-all _ (length t) _ (omega (arith, length-replicate {A = ℕ})) ∙ table-map (λ k. scaled c.args.most c.args.ratio k) t 0

pub returns-clause-right : goal.returns-clause-right
returns-clause-right g c =
    let a = c.args in
    let t = a.tunings in
    let e : c.loop-i.i ≡ length t = omega arith in
    rw e at c.loop-i.invariant.right ∙ tabled-all _ (length t) _ (omega (arith, length-replicate {A = ℕ})) ∙ table-map (λ k. beside a.most a.wide (scaled a.most a.ratio k)) t 0
