-- `tank::allpasses` steps the four all-passes of a side, one after the other. Assumes nothing.
use Rattle.std.proofs.Common.{◌∙◌, ◌≡◌, ℕ, ◌-◌, ◌<◌, ◌≢◌, length, get_or, refl, ap, arith, length-take, length-drop}
use lib.Ieee.{nan, of_bits}
use Rattle.common.specs.Line.{zeros, table, nonzeros}
use Rattle.common.proofs.Tables.{tabled-more, tabled-all}
use Rattle.reverb.specs.declared.filters.Passed.{Passed}
use Rattle.reverb.specs.Tank.{allpass_lines, allpasses_held, passed_on, allpass_write, held, place_of, next_position}
use Rattle.reverb.proofs.Apart.{line-below, allpass-apart, first-held, turned, pass-gives, pass-writes}
use Rattle.reverb.proofs.Net.{table-table, gained-table, lost-table}
use Rattle.reverb.proofs.tank.allpasses.Goals as goal

pub loop-i-init : goal.loop-i-init
unfolding table passed_on of_bits
loop-i-init c = record { memory = refl; held = refl; fed = refl; output = refl }

pub process_allpass-p-requires : goal.process_allpass-p-requires
process_allpass-p-requires c =
    let f = c.requires.in_lines in
    simp (length-take, length-drop) (omega (arith, c.requires.room, line-below f c.loop-i.i c.loop-i-test.true))

pub move_on-requires : goal.move_on-requires
move_on-requires c = (omega arith, (omega arith, c.requires.in_lines.inside))

pub loop-i-preserved : goal.loop-i-preserved
unfolding allpass_write
loop-i-preserved c =
    let l = c.loop-i in
    let a = c.args in
    let u = allpass_lines a.o a.pos.now a.lengths in
    let i = l.i in
    let m = a.mem.now in
    let h : i < 4 = c.loop-i-test.true in
    let f = c.requires.in_lines in
    let w = allpass_write a.input u (allpasses_held u m) in
    let apart : (k : ℕ) → k < i → (w i).place ≢ (w k).place = λ k g. allpass-apart a.o a.pos.now a.lengths f i k h g in
    let k = length l.mem - u.start i in
    let inside : get_or a.pos.now i 0 < k = omega (arith, c.requires.room, line-below f i h) in
    let same = first-held w m i apart l.mem l.invariant.memory in
    let gives = pass-gives a.input u m i h l.mem l.output k inside refl same l.invariant.output c.process_allpass-p.ensures.value in
    record {
      memory = turned w m i apart l.mem l.invariant.memory (pass-writes a.input u m i h l.mem l.output k inside refl same l.invariant.output (omega arith) c.process_allpass-p.ensures.line_after);
      held = tabled-more _ i _ (omega (arith, h)) l.invariant.held (ap (λ (r : Passed). r.held) gives);
      fed = tabled-more _ i _ (omega (arith, h)) l.invariant.fed (ap (λ (r : Passed). r.fed) gives);
      output = ap (λ (r : Passed). r.output) gives;
    }

pub returns : goal.returns
unfolding held allpass_write next_position
returns c =
    let a = c.args in
    let l = c.loop-i in
    let u = allpass_lines a.o a.pos.now a.lengths in
    let m = a.mem.now in
    let w = allpass_write a.input u (allpasses_held u m) in
    let all : l.i ≡ 4 = omega (arith, c.loop-i-test.false, l.auto) in
    let fed = rw all at l.invariant.fed ∙ tabled-all _ 4 (zeros 4) refl in
    let stood = rw all at l.invariant.held ∙ tabled-all _ 4 (zeros 4) refl ∙ table-table (λ k. get_or m (place_of u k) nan) 4 nan in
    record {
      positions = c.move_on.ensures;
      memory = rw all at l.invariant.memory;
      output = rw all at l.invariant.output;
      gained = c.nonzeros.ensures.value ∙ ap nonzeros fed ∙ gained-table w 4;
      lost = c.nonzeros-2.ensures.value ∙ ap nonzeros stood ∙ lost-table w 4 m;
    }
