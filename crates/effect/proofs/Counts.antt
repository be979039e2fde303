-- The count is true on every run of an effect that has the laws, and the question answers the full reading. Assumes them.
use Rattle.std.proofs.Common.{◌≡◌, ℕ, ◌+◌, ◌-◌, ◌≤◌, min, Bool, true, ◌&&◌, List, [], ◌∷◌, length, get_or, set, take, refl, sym, ap, ◌∙◌, arith, get_or-set_other, length-set}
use native.Mathlib.Nat.{min-eq_right}
use lib.Dec.{eqb}
use lib.Seq.{get_or-take}
use lib.Ieee.{Float, nan}
use Rattle.port.specs.Answer as answer
use Rattle.common.specs.Line.{zeros, nonzero, nonzeros, recounted}
use Rattle.common.proofs.Nonzeros.{nonzeros-most, none-nonzero, zeros-none}
use Rattle.effect.specs.Parts.{Part, first_places, sizes, held_in, InPart, InOrder}
use Rattle.effect.specs.Effect.{Effect, Write, laid, Unnamed, gained, lost, recount}
use Rattle.effect.specs.Run.{tick, retune, reset, ask, CallOf, Device, counted_silent, is_silent, start, step, reply, after, Run, final}
use Rattle.effect.specs.Counts.{TrueCount, Distinct, Counts}
use Rattle.effect.proofs.Laws.{Laws, Within, Below}
use Rattle.effect.proofs.CountLaws.{CountLaws}
use Rattle.effect.proofs.EachTick.{CallsKeep, step-keeps, after-keep, all-meet}
use Rattle.effect.proofs.Runs.{run_in}
use Rattle.effect.proofs.Memory.{length-laid}
use Rattle.effect.proofs.Parts.{cleared-parts, held-length, put-in}
use Rattle.effect.proofs.Table.{false_where, accepted, tick-accepted}

-- ---- writes

-- a value put in a place that is not written leaves what the written ones held
lost-same : (ws : List Write) (m : List Float) (p : ℕ) (x : Float) → Unnamed p ws → lost ws (set m p x) ≡ lost ws m
lost-same [] m p x u = refl
lost-same (w ∷ ws) m p x u =
    let same = ap nonzero (get_or-set_other m p w.place x nan (λ e. u.0 (sym e))) in
    omega (arith, same, lost-same ws m p x u.1)

-- the count goes by what the written places held, and by no other place
pub recount-same : (qs : List Part) (ws : List Write) (m n : List Float) (c : ℕ) → lost ws m ≡ lost ws n → recount qs ws m c ≡ recount qs ws n c
recount-same qs ws m n c e = ap (recounted (sizes qs) c (gained ws)) e

-- so that the first n places do, where those written are among them
pub recount-front : (n : ℕ) (qs : List Part) (ws : List Write) (m : List Float) (c : ℕ) → Below n ws → recount qs ws (take n m) c ≡ recount qs ws m c
recount-front n qs ws m c b = recount-same qs ws (take n m) m c (held ws b)
  where
    held : (vs : List Write) → Below n vs → lost vs (take n m) ≡ lost vs m
    held [] b = refl
    held (v ∷ vs) b = λ i. nonzero (get_or-take n m v.place nan b.0 i) + held vs b.1 i

-- writes to places of some parts, none twice
module _ (n : ℕ) (qs : List Part) (order : InOrder 0 n qs) where
  laid-counts : (ws : List Write) (m : List Float) → Within (λ p. InPart p qs) ws → Distinct ws → n ≤ length m
      → nonzeros (held_in qs (laid ws m)) + lost ws m ≡ nonzeros (held_in qs m) + gained ws
  laid-counts [] m u d l = refl
  laid-counts (w ∷ ws) m u d l =
      let m' = set m w.place w.value in
      omega (arith, laid-counts ws m' u.1 d.1 (omega (arith, l, length-set m w.place w.value)), lost-same ws m w.place w.value d.0, put-in 0 n qs m w.value order l u.0)

-- one write, in a line that is the whole of the places in use
pub one-recount : (L : ℕ) (w : Write) (m : List Float) (c : ℕ)
    → recounted L c (nonzero w.value) (nonzero (get_or m w.place nan)) ≡ recount (first_places L) (w ∷ []) m c
one-recount L w m c = omega arith

-- and two
pub two-recount : (L : ℕ) (w v : Write) (m : List Float) (c : ℕ)
    → recounted L c (nonzero w.value + nonzero v.value) (nonzero (get_or m w.place nan) + nonzero (get_or m v.place nan)) ≡ recount (first_places L) (w ∷ v ∷ []) m c
two-recount L w v m c = omega arith

module _ (E : Effect) (laws : Laws E) (own : CountLaws E) where
  abbrev True : Device E.State → Type 0
  True h = TrueCount E h

  -- a state that counts none, beside a cleared memory
  cleared-true : (s : E.State) (n : ℕ) → E.count s ≡ 0 → True (record { state = s; memory = zeros n })
  cleared-true s n e = e ∙ sym (zeros-none (held_in (E.parts (E.settings s)) (zeros n)) (cleared-parts (E.parts (E.settings s)) n))

  -- every accepted call keeps a true count, whatever its ticks meet
  pub calls-keep : (C : E.Tick → Type 0) → CallsKeep E C True
  calls-keep C (tick t) h e z counted =
      let s = h.state in
      let m = h.memory in
      let k = E.settings s in
      let qs = E.parts k in
      let ws = E.writes t s m in
      let a = accepted E (length m) (tick t) s e in
      let room = (tick-accepted E (length m) t k a.number).enough in
      let net = laid-counts (E.places k) qs (laws.in_order k) ws m (laws.inside t s m a.state_fits) (own.distinct t s m a.state_fits) room in
      let after-net : E.count s + gained ws - lost ws m ≡ nonzeros (held_in qs (laid ws m)) = omega (arith, counted, net) in
      let most : nonzeros (held_in qs (laid ws m)) ≤ sizes qs =
      omega (arith, nonzeros-most (held_in qs (laid ws m)), held-length 0 (E.places k) qs (laid ws m) (laws.in_order k) (omega (arith, room, length-laid ws m))) in
      own.next-count t s m a.state_fits
      ∙ ap (min (sizes qs)) after-net
      ∙ min-eq_right most
      ∙ ap (λ (q : E.Settings). nonzeros (held_in (E.parts q) (laid ws m))) (sym (laws.next-settings t s m))
  calls-keep C (retune r) h e z counted =
      let k = E.retune_settings r (E.settings h.state) in
      cleared-true (E.retuned k h.state) (length h.memory) (own.retuned-count k h.state)
  calls-keep C reset h e z counted = let k = E.settings h.state in cleared-true (E.fresh k) (length h.memory) (own.fresh-count k)
  calls-keep C ask h e z counted = counted

  abbrev Any : E.Tick → Type 0
  Any t = Unit {0}

  keeps : (c : CallOf E) (h : Device E.State) → True h → True (step E c h)
  keeps c h counted = step-keeps E Any True (calls-keep Any) c h (all-meet E Any (λ t. tt) (c ∷ []) h).0 counted

  pub after-true : (cs : List (CallOf E)) (h : Device E.State) → True h → True (after E cs h)
  after-true cs h counted = after-keep E Any True (calls-keep Any) cs h (all-meet E Any (λ t. tt) cs h) counted

  pub run-true : (x : Run E) → True (final E x)
  run-true x =
      let k = E.start_settings x.handed in
      after-true x.calls (start E x.handed x.memory) (rw x.accepted (cleared-true (E.fresh k) (length x.memory) (own.fresh-count k)))

  -- with a true count the question tells the full reading
  pub counted-full : (h : Device E.State) → True h → counted_silent E h.state ≡ is_silent E h
  counted-full h counted =
      ap (λ (b : Bool). E.quiet h.state && b)
      (ap (λ (n : ℕ). eqb n 0) counted ∙ none-nonzero (held_in (E.parts (E.settings h.state)) h.memory))

  asks : (h : Device E.State) → E.state_fits h.state ≡ true → reply E ask h ≡ answer.silent (counted_silent E h.state)
  asks h f = rw f refl

  true-answers : (h : Device E.State) → E.state_fits h.state ≡ true → True h → reply E ask h ≡ answer.silent (is_silent E h)
  true-answers h f counted = asks h f ∙ ap answer.silent (counted-full h counted)

  pub counts : Counts E
  counts =
      record {
        on_runs = run-true;
        answers = λ x. true-answers (final E x) (run_in E laws x).state_fits (run-true x);
        keeps = keeps;
        true_answers = true-answers;
        starts = λ a m e. rw e (own.fresh-count (E.start_settings a));
        resets = λ h e. rw e (own.fresh-count (E.settings h.state));
        retunes = λ r h e. rw e (own.retuned-count (E.retune_settings r (E.settings h.state)) h.state);
        ticks = λ t h e. rw e (own.next-count t h.state h.memory (accepted E (length h.memory) (tick t) h.state e).state_fits);
        distinct = λ t h e. own.distinct t h.state h.memory (accepted E (length h.memory) (tick t) h.state e).state_fits;
        most = own.most;
        above = λ s more. false_where (E.state_fits s) (own.most s) (λ l. omega (arith, l, more));
        asks = λ s m f. asks (record { state = s; memory = m }) f;
      }
