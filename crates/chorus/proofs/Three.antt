-- A chorus with one line and one with three, which correspond (specs/Three.antt), answer alike and stay so. Assumes nothing.
use Prim.Native.Nat.{ℕ, zero, suc, ◌+◌, ◌-◌, ◌*◌, ◌≤◌, ◌<◌}
use native.Mathlib.Nat.{zero-mul}
use native.Mathlib.Omega.{arith}
use native.Mathlib.Decide.{dec_lt}
use mathlib.Core.Path.{◌≡◌, refl, sym, ap, ◌∙◌, subst}
use mathlib.Core.Bool.{Bool, true, ◌&&◌, cond}
use mathlib.Core.List.{List, [], ◌∷◌}
use lib.Dec.{ltb, leb, eqb}
use lib.ListN.{length, get_or, take, drop, length-replicate}
use lib.Ieee.{Float, nan}
use borrow.Author.Tests.{lt-ltb, le-ltb, le-leb, lt-leb, eq-eqb, ne_eqb}
use Rattle.float64.specs.Number.{plus_zero, rate_fits}
use Rattle.port.specs.Answer.{played, done, silent, refused}
use Rattle.common.specs.Line.{zeros, line_at, read_at, nonzero}
use Rattle.common.proofs.Ring.{newest-clear, part-line, same-places}
use Rattle.common.proofs.Slices.{part-get_or}
use Rattle.effect.specs.Run.{tick, retune, reset, ask, CallOf, Device, device_of, if_none, first, memory_number, number_in, number_at, start_number, started, start, start_reply, changed, says, step, reply, after, replies, Run}
use Rattle.effect.specs.Demand1.{initial}
use Rattle.effect.specs.Demand3.{Demand3}
use Rattle.effect.proofs.Parts.{first_in_order, within_first}
use Rattle.effect.proofs.Laws.{Laws, Below}
use Rattle.effect.proofs.LineLaws.{LineLaws}
use Rattle.effect.proofs.Demand3.{demand-3}
use Rattle.effect.specs.Counts.{Counts}
use Rattle.effect.proofs.CountLaws.{CountLaws}
use Rattle.effect.proofs.Counts.{counts}
use Rattle.effect.proofs.Table.{none_1, accepted, settings-accepted, tick-accepted, enough}
use Rattle.effect.proofs.Lines.{line-end, push-each}
use Rattle.effect.proofs.Memory.{length-laid}
use Rattle.chorus.specs.declared.Chorus.{Chorus}
use Rattle.chorus.specs.Chorus.{Tick, Phases, chorus, line_length, phases_of, start_phases, state_of, cleared, blank, phases_fit, fits_with, state_fits, next_phases, tick_number, input, depth, mix, distance, voice, mixed, samples_from, next_counted}
use Rattle.chorus.specs.Chorus as one
use Rattle.chorus.specs.Three.{three_lined, line_alone, Corresponds}
use Rattle.chorus.specs.Three as three
use Rattle.chorus.proofs.Laws.{fits-parts, length-fits, voices_age, voices-age}
use Rattle.chorus.proofs.Demand1.{blank-refused, start_fits, reset-fits, retuned-fits, next_fits, laws}
use Rattle.chorus.proofs.Demand3.{heard_all, plays, from-0, line-laws}

-- ---- the state of the one with three lines: it counts three times as many places

abbrev tripled : Chorus → Chorus
tripled s = state_of s.write_pos (3 * s.nonzero_places) (phases_of s) s.sample_rate

-- ---- the table's numbers and the question: the places needed, those lent, those in use and those counted are all three times as many

module _ (a b : ℕ) where
  fewer-alike : ltb (3 * a) (3 * b) ≡ ltb a b
  fewer-alike = go (dec_lt a b)
    where
      go : Dec (a < b) → ltb (3 * a) (3 * b) ≡ ltb a b
      go (yes h) = lt-ltb (3 * a) (3 * b) (omega arith) ∙ sym (lt-ltb a b h)
      go (no h) = le-ltb (3 * a) (3 * b) (omega arith) ∙ sym (le-ltb a b (omega arith))

  at-most-alike : leb (3 * a) (3 * b) ≡ leb a b
  at-most-alike = go (dec_lt b a)
    where
      go : Dec (b < a) → leb (3 * a) (3 * b) ≡ leb a b
      go (yes h) = lt-leb (3 * a) (3 * b) (omega arith) ∙ sym (lt-leb a b h)
      go (no h) = le-leb (3 * a) (3 * b) (omega arith) ∙ sym (le-leb a b (omega arith))

none-alike : (c : ℕ) → eqb (3 * c) 0 ≡ eqb c 0
none-alike zero = refl
none-alike (suc c) = ne_eqb (3 * suc c) 0 (omega arith) ∙ sym (ne_eqb (suc c) 0 (omega arith))

memory-alike : (L n : ℕ) → memory_number (3 * L) (3 * n) ≡ memory_number L n
memory-alike L n = ap (λ (b : Bool). cond b 3 0) (fewer-alike n L)

fits-alike : (s : Chorus) → three.state_fits (tripled s) ≡ state_fits s
unfolding fits_with
fits-alike s =
    let L = line_length s.sample_rate in
    ap (λ (b : Bool). rate_fits s.sample_rate && (ltb s.write_pos L && (b && phases_fit (phases_of s)))) (at-most-alike s.nonzero_places L)

start-number-alike : (rate : Float) (m n : List Float) → length n ≡ 3 * length m → start_number three_lined rate (length n) ≡ start_number chorus rate (length m)
start-number-alike rate m n l = ap (λ (k : ℕ). start_number three_lined rate k) l ∙ ap (λ (k : ℕ). first (cond (rate_fits rate) 0 1) k) (memory-alike (line_length rate) (length m))

number-alike : (s : Chorus) (n : ℕ) (c : CallOf chorus) → number_in three_lined c (3 * n) (tripled s) ≡ number_in chorus c n s
number-alike s n (tick t) = λ i. cond (fits-alike s i) (first (memory-alike (line_length s.sample_rate) n i) (tick_number t)) 4
number-alike s n (retune rate) = λ i. cond (fits-alike s i) (first (cond (rate_fits rate) 0 1) (memory-alike (line_length rate) n i)) 4
number-alike s n reset = λ i. cond (fits-alike s i) (memory-alike (line_length s.sample_rate) n i) 4
number-alike s n ask = λ i. cond (fits-alike s i) 0 4

-- ---- clearings

cleared-alike : (p : Phases) (rate : Float) (j k : ℕ) → rate_fits rate ≡ true → line_length rate ≤ j → k ≡ 3 * j
    → Corresponds (device_of (cleared p rate) (zeros j)) (device_of (cleared p rate) (zeros k))
cleared-alike p rate j k h room e =
    let L = line_length rate in
    let some = (length-fits rate h).0 in
    record {
      position = refl;
      phases = refl;
      rate = refl;
      count = omega arith;
      lent = length-replicate k plus_zero ∙ e ∙ ap (λ (n : ℕ). 3 * n) (sym (length-replicate j plus_zero));
      lines = λ i l. newest-clear (i * L) L 0 k (omega arith) (omega (arith, line-end i 3 L (omega arith))) ∙ sym (newest-clear (0 * L) L 0 j (omega arith) (omega arith));
    }

pub start-alike : (rate : Float) (m n : List Float) → length n ≡ 3 * length m
    → (start_reply three_lined rate n ≡ start_reply chorus rate m) × ((start three_lined rate n).state ≡ (start chorus rate m).state)
start-alike rate m n l = (ap (λ (k : ℕ). if_none k done (refused k)) numbers, rw numbers (go (start_number chorus rate (length m))))
  where
    numbers : start_number three_lined rate (length n) ≡ start_number chorus rate (length m)
    numbers = start-number-alike rate m n l

    go : (k : ℕ) → (if_none k (started three_lined rate n) (device_of blank n)).state ≡ (if_none k (started chorus rate m) (device_of blank m)).state
    go zero = refl
    go (suc k) = refl

pub started-alike : (rate : Float) (m n : List Float) → length n ≡ 3 * length m → start_number chorus rate (length m) ≡ 0
    → Corresponds (start chorus rate m) (start three_lined rate n)
started-alike rate m n l e =
    let v = settings-accepted chorus (length m) rate e in
    let e' = start-number-alike rate m n l ∙ e in
    let a : started chorus rate m ≡ start chorus rate m = rw e in
    let b : started three_lined rate n ≡ start three_lined rate n = rw e' in
    subst (λ (h : Device Chorus). Corresponds h (start three_lined rate n)) a
    (subst (λ (g : Device Chorus). Corresponds (started chorus rate m) g) b
    (cleared-alike start_phases rate (length m) (length n) (none_1 (rate_fits rate) v.number) v.enough l))

-- ---- one call of a unit with one line in m, whose state is s, and of one with three in n

-- the call c of both: equal replies, and units that correspond after it
abbrev CallAlike : CallOf chorus → Device Chorus → Device Chorus → Type 0
CallAlike c h g = (reply three_lined c g ≡ reply chorus c h) × Corresponds (step chorus c h) (step three_lined c g)

module _ (s : Chorus) (m n : List Float) (r : Corresponds (device_of s m) (device_of (tripled s) n)) where
  abbrev h : Device Chorus
  h = device_of s m

  abbrev g : Device Chorus
  g = device_of (tripled s) n

  abbrev L : ℕ
  L = line_length s.sample_rate

  abbrev w : ℕ
  w = s.write_pos

  -- line i lies in its memory where the one line does
  line-in : L ≤ length m → (i : ℕ) → i < 3 → i * L + L ≤ length n
  line-in room i l = omega (arith, line-end i 3 L l, r.lent)

  -- at the position each of the three lines holds what the one line holds there
  lost-alike : w < L → L ≤ length m → (i : ℕ) → i < 3 → nonzero (get_or n (i * L + w) nan) ≡ nonzero (get_or m (0 * L + w) nan)
  lost-alike inside room i l =
      let same = same-places (i * L) (0 * L) L w n m inside (line-in room i l) (omega arith) (r.lines i (omega arith)) in
      ap nonzero (sym (part-get_or (i * L) L n w nan inside) ∙ ap (λ (q : List Float). get_or q w nan) same ∙ part-get_or (0 * L) L m w nan inside)

  ticked-alike : (t : Tick) → w < L → L ≤ length m → Corresponds (changed chorus (tick t) h) (changed three_lined (tick t) g)
  unfolding next_counted one.writes three.writes
  ticked-alike t inside room =
      let x = input t in
      let lost = lost-alike inside room in
      record {
        position = refl;
        phases = refl;
        rate = refl;
        count = omega (arith, lost 0 (omega arith), lost 1 (omega arith), lost 2 (omega arith));
        lent = length-laid (three.writes t s) n ∙ r.lent ∙ ap (λ (k : ℕ). 3 * k) (sym (length-laid (one.writes t s) m));
        lines = λ i l.
            push-each 3 0 i L w n x inside (omega arith) (omega arith) (line-in room i (omega arith))
            ∙ (λ j. x ∷ take (L - 1) (r.lines i l j))
            ∙ sym (push-each 1 0 0 L w m x inside (omega arith) (omega arith) (omega arith));
      }

  -- what an accepted call leaves, and what it answers
  changed-alike : (c : CallOf chorus) → number_at chorus c h ≡ 0 → Corresponds (changed chorus c h) (changed three_lined c g)
  changed-alike (tick t) e =
      let a = accepted chorus (length m) (tick t) s e in
      ticked-alike t (fits-parts s a.state_fits).inside (tick-accepted chorus (length m) t s.sample_rate a.number).enough
  changed-alike (retune rate) e =
      let v = settings-accepted chorus (length m) rate (accepted chorus (length m) (retune rate) s e).number in
      cleared-alike (phases_of s) rate (length m) (length n) (none_1 (rate_fits rate) v.number) v.enough r.lent
  changed-alike reset e =
      let a = accepted chorus (length m) reset s e in
      cleared-alike start_phases s.sample_rate (length m) (length n) (fits-parts s a.state_fits).rate (enough L (length m) a.number) r.lent
  changed-alike ask e = r

  says-alike : (c : CallOf chorus) → number_at chorus c h ≡ 0 → says three_lined c g ≡ says chorus c h
  says-alike (tick t) e =
      let a = accepted chorus (length m) (tick t) s e in
      let k = (tick-accepted chorus (length m) t s.sample_rate a.number).number in
      let rate = (fits-parts s a.state_fits).rate in
      let samples = plays (λ i. i * L) t (tripled s) n _ rate k (λ i l. r.lines i (omega arith)) ∙ sym (plays (λ i. 0) t s m _ rate k (λ i l. from-0 s m)) in
      let ages = voices-age (λ i. i * L) t (tripled s) ∙ sym (voices-age (λ i. 0) t s) in
      λ i. played (samples i) (ages i)
  says-alike (retune rate) e = refl
  says-alike reset e = refl
  says-alike ask e = ap silent (none-alike s.nonzero_places)

  -- any call: it is accepted, or refused with the same number, of both
  same-call-alike : (c : CallOf chorus) → CallAlike c h g
  same-call-alike c =
      subst (λ (k : ℕ). (if_none k (says three_lined c g) (refused k) ≡ reply chorus c h) × Corresponds (step chorus c h) (if_none k (changed three_lined c g) g)) (sym numbers)
      (go (number_at chorus c h) refl)
    where
      numbers : number_at three_lined c g ≡ number_at chorus c h
      numbers = ap (λ (k : ℕ). number_in three_lined c k (tripled s)) r.lent ∙ number-alike s (length m) c

      go : (k : ℕ) → number_at chorus c h ≡ k
          → (if_none k (says three_lined c g) (refused k) ≡ if_none k (says chorus c h) (refused k)) × Corresponds (if_none k (changed chorus c h) h) (if_none k (changed three_lined c g) g)
      go zero e = (says-alike c e, changed-alike c e)
      go (suc k) e = (refl, r)

-- ---- any two units that correspond

pub call-alike : (c : CallOf chorus) (h g : Device Chorus) → Corresponds h g → CallAlike c h g
call-alike c h g r =
    subst (λ (s : Chorus). Corresponds h (device_of s g.memory) → CallAlike c h (device_of s g.memory)) state
    (λ q. same-call-alike h.state h.memory g.memory q c)
    r
  where
    state : tripled h.state ≡ g.state
    state = λ i. state_of (sym r.position i) (sym r.count i) (sym r.phases i) (sym r.rate i)

-- ---- lists of calls, and whole runs

abbrev CallsAlike : List (CallOf chorus) → Device Chorus → Device Chorus → Type 0
CallsAlike cs h g = (replies three_lined cs g ≡ replies chorus cs h) × Corresponds (after chorus cs h) (after three_lined cs g)

calls-alike : (cs : List (CallOf chorus)) (h g : Device Chorus) → Corresponds h g → CallsAlike cs h g
unfolding after replies
calls-alike [] h g r = (refl, r)
calls-alike (c ∷ cs) h g r =
    let now = call-alike c h g r in
    let rest = calls-alike cs (step chorus c h) (step three_lined c g) now.1 in
    ((λ i. now.0 i ∷ rest.0 i), rest.1)

pub runs-alike : (x : Run chorus) (n : List Float) → length n ≡ 3 * length x.memory → CallsAlike x.calls (initial chorus x) (start three_lined x.handed n)
runs-alike x n l = calls-alike x.calls (initial chorus x) (start three_lined x.handed n) (started-alike x.handed x.memory n l x.accepted)

-- ---- the unit with three lines by itself

three-laws : Laws three_lined
unfolding next_counted three.writes
three-laws =
    record {
      blank-refused = blank-refused three.places;
      fresh-settings = laws.fresh-settings;
      retuned-settings = laws.retuned-settings;
      next-settings = λ t s m. refl;
      start_fits = λ k e. start_fits three.places k (none_1 (rate_fits k) e);
      reset-fits = reset-fits three.places;
      retuned-fits = λ k s e f. retuned-fits three.places k s (none_1 (rate_fits k) e) f;
      next_fits = λ t s m e r n. next_fits three.places t s (omega arith) e n;
      in_order = λ k. first_in_order (three.places k);
      inside = λ t s m e. within_first (three.places s.sample_rate) (three.writes t s) (inside t s e);
    }
  where
    inside : (t : Tick) (s : Chorus) → three.state_fits s ≡ true → Below (three.places s.sample_rate) (three.writes t s)
    inside t s e = let f = (fits-parts s e).inside in (omega arith, (omega arith, (omega arith, tt)))

three-line-laws : LineLaws three_lined three.lines
unfolding next_counted three.writes
three-line-laws =
    record {
      in_turn = line-laws.in_turn;
      some = omega arith;
      fills = λ k. refl;
      inside = λ s e. (fits-parts s e).inside;
      stores = λ t s m. refl;
      next-position = λ t s m. refl;
      advanced = λ t rate p. next_phases t.frequency rate p;
      next-phase = λ t s m. refl;
      played = λ t rate p l. heard_all t rate l;
      plays = λ t s m l e r n g. plays (λ i. i * line_length s.sample_rate) t s m l (fits-parts s e).rate n g;
      age = voices_age;
      ages = λ t s. voices-age (λ i. i * line_length s.sample_rate) t s;
    }

pub shown3 : (x y : Run three_lined) → Demand3 three_lined three.lines x y
shown3 = demand-3 three_lined three.lines three-laws three-line-laws

-- its three stores are in three places
three-count : CountLaws three_lined
unfolding next_counted three.writes
three-count =
    record {
      fresh-count = λ k. refl;
      retuned-count = λ k s. refl;
      next-count = λ t s m f. refl;
      distinct = λ t s m f.
          let inside = (fits-parts s f).inside in
          ((λ e. omega (arith, inside, e), (λ e. omega (arith, inside, e), tt)), ((λ e. omega (arith, inside, e), tt), (tt, tt)));
      most = λ s f. omega (arith, (fits-parts s f).most);
    }

pub three-counted : Counts three_lined
three-counted = counts three_lined three-laws three-count

-- a voice hears in a line by itself what it hears in the line where it lies
pub apart : (t : Tick) (s : Chorus) (m : List Float) → three.state_fits s ≡ true
    → three.samples t s m
    ≡ mixed (input t) (mix t) (voice 0 t.sine0 t s (line_alone 0 s m)) (voice 0 t.sine1 t s (line_alone 1 s m)) (voice 0 t.sine2 t s (line_alone 2 s m))
unfolding samples_from voice
apart t s m e = λ j.
    mixed
    (input t)
    (mix t)
    (read_at (alone 0 j) (distance s.sample_rate (depth t) t.sine0))
    (read_at (alone 1 j) (distance s.sample_rate (depth t) t.sine1))
    (read_at (alone 2 j) (distance s.sample_rate (depth t) t.sine2))
  where
    L : ℕ
    L = line_length s.sample_rate

    alone : (i : ℕ) → line_at (i * L) L s.write_pos m ≡ line_at 0 L s.write_pos (line_alone i s m)
    alone i = sym (part-line (i * L) L s.write_pos m (fits-parts s e).inside)
