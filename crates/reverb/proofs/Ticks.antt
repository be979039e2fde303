-- An accepted tick from its steps: the predelay's store, then the combs' left and right, then the all-passes'. Each reads its own lines, which the steps before
-- left as they were. Assumes nothing.
use Rattle.std.proofs.Common.{◌≡◌, ℕ, ◌+◌, ◌*◌, ◌<◌, ◌≤◌, List, [], ◌∷◌, get_or, set, sym, ap, ◌∙◌, arith, get_or-set_other}
use lib.Ieee.{Float, nan, binary64, mul}
use Rattle.float64.specs.Number.{fraction}
use Rattle.port.specs.Answer.{played}
use Rattle.common.specs.Signal.{blended}
use Rattle.common.specs.Line.{next_place, table, nonzero, nonzeros, recounted}
use Rattle.effect.specs.Effect.{Write, laid, gained, lost, recount}
use Rattle.effect.proofs.Memory.{laid-append}
use Rattle.reverb.specs.declared.tunings.Lengths.{Lengths}
use Rattle.reverb.specs.declared.stepped.Stepped.{Stepped}
use Rattle.reverb.specs.declared.tick.Controls.{Controls}
use Rattle.reverb.specs.declared.Reverb.{Reverb}
use Rattle.reverb.specs.Tunings.{Side, left, right, sided, comb_size, allpass_size, predelay_size, comb_lengths, allpass_lengths, lengths_at}
use Rattle.reverb.specs.Tank.{Lines, combs_start, allpasses_start, comb_lines, allpass_lines, predelay_start, place_of, held, next_position, by_sides, combs_held, sum_of, comb_stored, comb_write, combs_writes, CombsStep, allpasses_held, passed_on, allpass_write, allpasses_writes, AllpassesStep}
use Rattle.reverb.specs.Reverb.{state_of, combs, stores, allpasses, input, feedback, damping, mix, predelayed, summed, wet, comb_writes, allpass_writes, writes, used_parts, Advances}
use Rattle.reverb.specs.Reverb as page
use Rattle.reverb.proofs.Used.{used-is}
use Rattle.reverb.proofs.Laws.{Fits}
use Rattle.reverb.proofs.Net.{lost-table, lines-gained, lines-lost}
use Rattle.reverb.proofs.Apart.{laid-beside, sides-laid, comb-place, allpass-place, held-ext}

-- where the places of a side's combs and all-passes lie
module _ (s : Reverb) (f : Fits s) where
  pub comb_at : (side : Side) (i : ℕ) → i < 8 → (combs_start side ≤ place_of (combs s side) i) × (place_of (combs s side) i < combs_start side + 8 * comb_size)
  comb_at side i h = comb-place (combs_start side) (sided s.comb_pos_l s.comb_pos_r side) (comb_lengths side s.sample_rate) (f.combs side) i h

  pub pass_at : (side : Side) (i : ℕ) → i < 4 → (allpasses_start side ≤ place_of (allpasses s side) i) × (place_of (allpasses s side) i < allpasses_start side + 4 * allpass_size)
  pass_at side i h = allpass-place (allpasses_start side) (sided s.allpass_pos_l s.allpass_pos_r side) (allpass_lengths side s.sample_rate) (f.allpasses side) i h

module _ (c : Controls) (s : Reverb) (m : List Float) (f : Fits s) where
  -- the memory after the predelay's store, and after the combs' on the left, on the right, and the all-passes' on the left
  abbrev pub m1 : List Float
  m1 = set m (predelay_start + s.predelay_pos) (input c)

  abbrev m2 : List Float
  m2 = laid (table (λ i. comb_writes c s m i left) 8) m1

  abbrev m3 : List Float
  m3 = laid (table (λ i. comb_writes c s m i right) 8) m2

  abbrev m4 : List Float
  m4 = laid (table (λ i. allpass_writes s m i left) 4) m3

  -- so that each place holds, when it is read, what it held in m
  in-m1 : (p : ℕ) → p < predelay_start → get_or m1 p nan ≡ get_or m p nan
  in-m1 p h = get_or-set_other m _ p (input c) nan (omega arith)

  in-m2 : (p : ℕ) → combs_start right ≤ p → p < predelay_start → get_or m2 p nan ≡ get_or m p nan
  unfolding comb_write
  in-m2 p a h = laid-beside (λ i. comb_writes c s m i left) 8 m1 p nan (λ i k. omega (arith, comb_at s f left i k)) ∙ in-m1 p h

  in-m3 : (p : ℕ) → allpasses_start left ≤ p → p < predelay_start → get_or m3 p nan ≡ get_or m p nan
  unfolding comb_write
  in-m3 p a h = laid-beside (λ i. comb_writes c s m i right) 8 m2 p nan (λ i k. omega (arith, comb_at s f right i k)) ∙ in-m2 p (omega arith) h

  in-m4 : (p : ℕ) → allpasses_start right ≤ p → p < predelay_start → get_or m4 p nan ≡ get_or m p nan
  unfolding allpass_write
  in-m4 p a h = laid-beside (λ i. allpass_writes s m i left) 4 m3 p nan (λ i k. omega (arith, pass_at s f left i k)) ∙ in-m3 p (omega arith) h

  combs-left : combs_held (combs s left) m1 ≡ combs_held (combs s left) m
  combs-left = held-ext 8 (combs s left) m m1 (λ i h. in-m1 _ (omega (arith, comb_at s f left i h)))

  combs-right : combs_held (combs s right) m2 ≡ combs_held (combs s right) m
  combs-right = held-ext 8 (combs s right) m m2 (λ i h. in-m2 _ (omega (arith, comb_at s f right i h)) (omega (arith, comb_at s f right i h)))

  passes-left : allpasses_held (allpasses s left) m3 ≡ allpasses_held (allpasses s left) m
  passes-left = held-ext 4 (allpasses s left) m m3 (λ i h. in-m3 _ (omega (arith, pass_at s f left i h)) (omega (arith, pass_at s f left i h)))

  passes-right : allpasses_held (allpasses s right) m4 ≡ allpasses_held (allpasses s right) m
  passes-right = held-ext 4 (allpasses s right) m m4 (λ i h. in-m4 _ (omega (arith, pass_at s f right i h)) (omega (arith, pass_at s f right i h)))

  -- the writes of all steps, as the page has them
  written : laid (table (λ i. allpass_writes s m i right) 4) m4 ≡ laid (writes c s m) m
  unfolding writes comb_write allpass_write
  written =
      sides-laid (allpass_writes s m) 4 m3 (λ i k h g. omega (arith, pass_at s f left i h, pass_at s f right k (omega arith)))
      ∙ ap (laid (by_sides (allpass_writes s m) 4)) (sides-laid (comb_writes c s m) 8 m1 (λ i k h g. omega (arith, comb_at s f left i h, comb_at s f right k (omega arith))))
      ∙ sym (laid-append (by_sides (comb_writes c s m) 8) (by_sides (allpass_writes s m) 4) m1)

  -- a side's combs, as the code has them: lengths, input, damping and feedback, the memory before and after
  module _ (side : Side) {ns : List ℕ} (long : ns ≡ comb_lengths side s.sample_rate) {y d b : Float} (into : y ≡ predelayed c s m) (damped : d ≡ damping c) (fed : b ≡ feedback c) {now before : List Float} (first : now ≡ before) (same : combs_held (combs s side) before ≡ combs_held (combs s side) m) {w' : List ℕ} {z' after : List Float} {r : Stepped} (step : CombsStep y d b (comb_lines (combs_start side) (sided s.comb_pos_l s.comb_pos_r side) ns) (stores s side) now w' z' after r) where
    abbrev lines : List ℕ → Lines
    lines l = comb_lines (combs_start side) (sided s.comb_pos_l s.comb_pos_r side) l

    abbrev stored : ℕ → Write
    stored i = comb_writes c s m i side

    held-is : combs_held (lines ns) now ≡ combs_held (combs s side) m
    held-is = (λ j. combs_held (lines (long j)) (first j)) ∙ same

    combs-moved : w' ≡ table (next_position (combs s side)) 8
    combs-moved = step.positions ∙ (λ j. table (next_position (lines (long j))) 8)

    combs-stored : z' ≡ table (comb_stored (damping c) (stores s side) (combs_held (combs s side) m)) 8
    combs-stored = step.stores ∙ (λ j. table (comb_stored (damped j) (stores s side) (held-is j)) 8)

    writes-are : combs_writes y d b (lines ns) (stores s side) now ≡ table stored 8
    writes-are = λ j. table (comb_write (into j) (damped j) (fed j) (lines (long j)) (stores s side) (held-is j)) 8

    combs-written : after ≡ laid (table stored 8) before
    combs-written = step.memory ∙ (λ j. laid (writes-are j) (first j))

    combs-gained : r.gained ≡ gained (table stored 8)
    combs-gained = step.gained ∙ ap gained writes-are

    combs-lost : r.lost ≡ lost (table stored 8) m
    unfolding held comb_write
    combs-lost = step.lost ∙ (λ j. lost (writes-are j) (first j)) ∙ sym (lost-table stored 8 before) ∙ ap nonzeros same ∙ lost-table stored 8 m

    sum_is : mul binary64 r.output (fraction 1 8) ≡ summed s m side
    unfolding summed
    sum_is = λ j. mul binary64 ((step.sum ∙ (λ k. sum_of (held-is k) 8)) j) (fraction 1 8)

  -- and its all-passes, with x into them
  module _ (side : Side) {ns : List ℕ} (long : ns ≡ allpass_lengths side s.sample_rate) {x : Float} (into : x ≡ summed s m side) {now before : List Float} (first : now ≡ before) (same : allpasses_held (allpasses s side) before ≡ allpasses_held (allpasses s side) m) {w' : List ℕ} {after : List Float} {r : Stepped} (step : AllpassesStep x (allpass_lines (allpasses_start side) (sided s.allpass_pos_l s.allpass_pos_r side) ns) now w' after r) where
    abbrev passes : List ℕ → Lines
    passes l = allpass_lines (allpasses_start side) (sided s.allpass_pos_l s.allpass_pos_r side) l

    abbrev fed : ℕ → Write
    fed i = allpass_writes s m i side

    passes-held : allpasses_held (passes ns) now ≡ allpasses_held (allpasses s side) m
    passes-held = (λ j. allpasses_held (passes (long j)) (first j)) ∙ same

    passes-moved : w' ≡ table (next_position (allpasses s side)) 4
    passes-moved = step.positions ∙ (λ j. table (next_position (passes (long j))) 4)

    fed-are : allpasses_writes x (passes ns) now ≡ table fed 4
    fed-are = λ j. table (allpass_write (into j) (passes (long j)) (passes-held j)) 4

    passes-written : after ≡ laid (table fed 4) before
    passes-written = step.memory ∙ (λ j. laid (fed-are j) (first j))

    passes-gained : r.gained ≡ gained (table fed 4)
    passes-gained = step.gained ∙ ap gained fed-are

    passes-lost : r.lost ≡ lost (table fed 4) m
    unfolding held allpass_write
    passes-lost = step.lost ∙ (λ j. lost (fed-are j) (first j)) ∙ sym (lost-table fed 4 before) ∙ ap nonzeros same ∙ lost-table fed 4 m

    wet-is : r.output ≡ wet s m side
    unfolding wet
    wet-is = step.output ∙ (λ j. passed_on (into j) (passes-held j) 4)

  -- the whole tick: n1 is the memory after the predelay's store, then after each step
  module _ {n : Lengths} (long : n ≡ lengths_at s.sample_rate) {y d b : Float} (into : y ≡ predelayed c s m) (damped : d ≡ damping c) (fed : b ≡ feedback c) {n1 n2 n3 n4 n5 : List Float} (first : n1 ≡ m1)
      {wl wr : List ℕ} {zl zr : List Float} {suml sumr : Stepped} (combl : CombsStep y d b (comb_lines (combs_start left) s.comb_pos_l n.comb_l) s.comb_filter_state_l n1 wl zl n2 suml) (combr : CombsStep y d b (comb_lines (combs_start right) s.comb_pos_r n.comb_r) s.comb_filter_state_r n2 wr zr n3 sumr)
      {vl vr : List ℕ} {outl outr : Stepped} (passl : AllpassesStep (mul binary64 suml.output (fraction 1 8)) (allpass_lines (allpasses_start left) s.allpass_pos_l n.allpass_l) n3 vl n4 outl) (passr : AllpassesStep (mul binary64 sumr.output (fraction 1 8)) (allpass_lines (allpasses_start right) s.allpass_pos_r n.allpass_r) n4 vr n5 outr) where
    cl : n.comb_l ≡ comb_lengths left s.sample_rate
    cl = λ j. (long j).comb_l

    cr : n.comb_r ≡ comb_lengths right s.sample_rate
    cr = λ j. (long j).comb_r

    pl : n.allpass_l ≡ allpass_lengths left s.sample_rate
    pl = λ j. (long j).allpass_l

    pr : n.allpass_r ≡ allpass_lengths right s.sample_rate
    pr = λ j. (long j).allpass_r

    second : n2 ≡ m2
    second = combs-written left cl into damped fed first combs-left combl

    third : n3 ≡ m3
    third = combs-written right cr into damped fed second combs-right combr

    suml-is : mul binary64 suml.output (fraction 1 8) ≡ summed s m left
    suml-is = sum_is left cl into damped fed first combs-left combl

    sumr-is : mul binary64 sumr.output (fraction 1 8) ≡ summed s m right
    sumr-is = sum_is right cr into damped fed second combs-right combr

    fourth : n4 ≡ m4
    fourth = passes-written left pl suml-is third passes-left passl

    -- the count, with the predelay's step of its own
    module _ (p : Stepped) (gains : p.gained ≡ nonzero (input c)) (loses : p.lost ≡ nonzero (get_or m (predelay_start + s.predelay_pos) nan)) where
      all-gained : p.gained + suml.gained + sumr.gained + outl.gained + outr.gained ≡ gained (writes c s m)
      unfolding writes
      all-gained =
          omega (
            arith,
            gains,
            combs-gained left cl into damped fed first combs-left combl,
            combs-gained right cr into damped fed second combs-right combr,
            passes-gained left pl suml-is third passes-left passl,
            passes-gained right pr sumr-is fourth passes-right passr,
            lines-gained (comb_writes c s m) (allpass_writes s m) 8 4,
          )

      all-lost : p.lost + suml.lost + sumr.lost + outl.lost + outr.lost ≡ lost (writes c s m) m
      unfolding writes
      all-lost =
          omega (
            arith,
            loses,
            combs-lost left cl into damped fed first combs-left combl,
            combs-lost right cr into damped fed second combs-right combr,
            passes-lost left pl suml-is third passes-left passl,
            passes-lost right pr sumr-is fourth passes-right passr,
            lines-lost (comb_writes c s m) (allpass_writes s m) 8 4 m,
          )

      counts : {k : ℕ}
          → k
          ≡ recounted n.used s.nonzero_places (p.gained + suml.gained + sumr.gained + outl.gained + outr.gained)
          (p.lost + suml.lost + sumr.lost + outl.lost + outr.lost)
          → k ≡ recount (used_parts s.sample_rate) (writes c s m) m s.nonzero_places
      counts e =
          let used = ap (λ (l : Lengths). l.used) long ∙ sym (used-is (lengths_at s.sample_rate)) in
          e ∙ (λ j. recounted (used j) s.nonzero_places (all-gained j) (all-lost j))

      pub advances : {w k : ℕ} {l r : Float} → w ≡ next_place predelay_size s.predelay_pos
          → k
          ≡ recounted n.used s.nonzero_places (p.gained + suml.gained + sumr.gained + outl.gained + outr.gained)
          (p.lost + suml.lost + sumr.lost + outl.lost + outr.lost)
          → l ≡ blended (input c) outl.output (mix c)
          → r ≡ blended (input c) outr.output (mix c)
          → Advances c s m (state_of wl wr vl vr w k zl zr s.sample_rate) n5 (played (l ∷ r ∷ []) 0)
      unfolding page.next page.samples
      advances w e l r =
          let k = counts e in
          let comb-l = combs-moved left cl into damped fed first combs-left combl in
          let comb-r = combs-moved right cr into damped fed second combs-right combr in
          let store-l = combs-stored left cl into damped fed first combs-left combl in
          let store-r = combs-stored right cr into damped fed second combs-right combr in
          let pass-l = passes-moved left pl suml-is third passes-left passl in
          let pass-r = passes-moved right pr sumr-is fourth passes-right passr in
          let wet-l = wet-is left pl suml-is third passes-left passl in
          let wet-r = wet-is right pr sumr-is fourth passes-right passr in
          record {
            state = λ j. state_of (comb-l j) (comb-r j) (pass-l j) (pass-r j) (w j) (k j) (store-l j) (store-r j) s.sample_rate;
            memory = passes-written right pr sumr-is fourth passes-right passr ∙ written;
            answer = λ j. played ((l ∙ (λ k. blended (input c) (wet-l k) (mix c))) j ∷ (r ∙ (λ k. blended (input c) (wet-r k) (mix c))) j ∷ []) 0;
          }
