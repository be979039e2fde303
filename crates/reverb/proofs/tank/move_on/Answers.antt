-- `tank::move_on` moves one position after the other, each of which is still the one that was lent. Assumes nothing.
use Rattle.std.proofs.Common.{◌≡◌, ℕ, ◌<◌, length, get_or, ap, ◌∙◌, arith}
use Rattle.common.specs.Line.{next_place}
use Rattle.common.proofs.Tables.{tabled-none, tabled-more, tabled-all}
use Rattle.reverb.proofs.Lists.{below_at, below-long}
use Rattle.reverb.proofs.Apart.{unmoved}
use Rattle.reverb.proofs.tank.move_on.Goals as goal

pub loop-i-init : goal.loop-i-init
loop-i-init g c = tabled-none _ _

pub next_pos-requires : goal.next_pos-requires
next_pos-requires g c =
    let ws = c.args.pos.now in
    let ns = c.args.lengths in
    let long : c.loop-i.i < length ws = omega (arith, c.loop-i-test.true, c.told-pos) in
    omega (arith, unmoved _ ws c.loop-i.i 0 c.loop-i.invariant long, below_at ws ns c.loop-i.i c.requires.inside (omega (arith, long, below-long ws ns c.requires.inside)))

pub loop-i-preserved : goal.loop-i-preserved
loop-i-preserved g c =
    let ws = c.args.pos.now in
    let i = c.loop-i.i in
    let long : i < length ws = omega (arith, c.loop-i-test.true, c.told-pos) in
    tabled-more _ i ws long c.loop-i.invariant
    (c.next_pos.ensures ∙ ap (λ (w : ℕ). next_place (get_or c.args.lengths i 0) w) (unmoved _ ws i 0 c.loop-i.invariant long))

pub returns : goal.returns
returns g c =
    let e : c.loop-i.i ≡ g.row.N = omega (arith, c.loop-i-test.false, c.loop-i.auto.i-end) in
    rw e at c.loop-i.invariant ∙ tabled-all _ g.row.N _ c.told-pos
