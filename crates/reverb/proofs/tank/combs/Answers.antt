-- `tank::combs` steps the eight combs of a side, one after the other. Assumes nothing.
use Rattle.std.proofs.Common.{◌∙◌, ◌≡◌, ℕ, ◌-◌, ◌<◌, ◌≢◌, length, get_or, refl, ap, arith, length-take, length-drop}
use lib.Ieee.{nan, of_bits}
use Rattle.common.specs.Line.{zeros, table, nonzeros}
use Rattle.common.proofs.Tables.{tabled-more, tabled-all}
use Rattle.reverb.specs.declared.filters.Combed.{Combed}
use Rattle.reverb.specs.Tank.{comb_lines, combs_held, sum_of, comb_write, held, place_of, next_position}
use Rattle.reverb.proofs.Apart.{line-below, unmoved, comb-apart, first-held, turned, comb-gives, comb-writes, sum_more}
use Rattle.reverb.proofs.Net.{table-table, gained-table, lost-table}
use Rattle.reverb.proofs.tank.combs.Goals as goal

pub loop-i-init : goal.loop-i-init
unfolding table sum_of of_bits
loop-i-init c = record { memory = refl; stores = refl; held = refl; fed = refl; sum = refl }

pub process_comb-c-requires : goal.process_comb-c-requires
process_comb-c-requires c =
    let f = c.requires.in_lines in
    simp (length-take, length-drop) (omega (arith, c.requires.room, line-below f c.loop-i.i c.loop-i-test.true))

pub move_on-requires : goal.move_on-requires
move_on-requires c = (omega arith, (omega arith, c.requires.in_lines.inside))

pub loop-i-preserved : goal.loop-i-preserved
unfolding comb_write
loop-i-preserved c =
    let l = c.loop-i in
    let a = c.args in
    let u = comb_lines a.o a.pos.now a.lengths in
    let z = a.filter_state.now in
    let i = l.i in
    let m = a.mem.now in
    let h : i < 8 = c.loop-i-test.true in
    let f = c.requires.in_lines in
    let stores : i < length z = omega (arith, h, c.told-filter_state) in
    let w = comb_write a.input a.damping a.feedback u z (combs_held u m) in
    let apart : (k : ℕ) → k < i → (w i).place ≢ (w k).place = λ k g. comb-apart a.o a.pos.now a.lengths f i k h g in
    let kept = unmoved _ _ i nan l.invariant.stores stores in
    let k = length l.mem - u.start i in
    let inside : get_or a.pos.now i 0 < k = omega (arith, c.requires.room, line-below f i h) in
    let same = first-held w m i apart l.mem l.invariant.memory in
    let gives = comb-gives a.input a.damping a.feedback u z m i h l.mem k inside refl kept same c.process_comb-c.ensures.value in
    let written = comb-writes a.input a.damping a.feedback u z m i h l.mem k inside refl kept same (omega arith) c.process_comb-c.ensures.line_after in
    record {
      memory = turned w m i apart l.mem l.invariant.memory written;
      stores = tabled-more _ i _ stores l.invariant.stores (ap (λ (r : Combed). r.filter_state) gives);
      held = tabled-more _ i _ (omega (arith, h)) l.invariant.held (ap (λ (r : Combed). r.output) gives);
      fed = tabled-more _ i _ (omega (arith, h)) l.invariant.fed (ap (λ (r : Combed). r.fed) gives);
      sum = sum_more _ i l.invariant.sum (ap (λ (r : Combed). r.output) gives);
    }

pub returns : goal.returns
unfolding held comb_write next_position
returns c =
    let a = c.args in
    let l = c.loop-i in
    let u = comb_lines a.o a.pos.now a.lengths in
    let m = a.mem.now in
    let was = combs_held u m in
    let w = comb_write a.input a.damping a.feedback u a.filter_state.now was in
    let all : l.i ≡ 8 = omega (arith, c.loop-i-test.false, l.auto) in
    let fed = rw all at l.invariant.fed ∙ tabled-all _ 8 (zeros 8) refl in
    let stood = rw all at l.invariant.held ∙ tabled-all _ 8 (zeros 8) refl ∙ table-table (λ k. get_or m (place_of u k) nan) 8 nan in
    record {
      positions = c.move_on.ensures;
      stores = rw all at l.invariant.stores ∙ tabled-all _ 8 _ c.told-filter_state;
      memory = rw all at l.invariant.memory;
      sum = rw all at l.invariant.sum;
      gained = c.nonzeros.ensures.value ∙ ap nonzeros fed ∙ gained-table w 8;
      lost = c.nonzeros-2.ensures.value ∙ ap nonzeros stood ∙ lost-table w 8 m;
    }
