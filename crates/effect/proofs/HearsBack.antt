-- The age answered to an accepted tick is that of the oldest sample which one of its reads weighed above 0, or 0, of every effect whose reads lie in its lines.
-- Assumes the effect's laws of reads.
use Rattle.std.proofs.Common.{ℕ, ◌-◌, ◌^◌, ◌≤◌, ◌<◌, ◌≡◌, inl, inr, max, true, List, [], ◌∷◌, refl, sym, ap, ◌∙◌, subst, arith}
use Rattle.std.proofs.lemmas.Bool.{cases_lt}
use lib.ListN.{length}
use lib.Ieee.{binary64, lt}
use Rattle.float64.specs.Number.{plus_zero, float_of}
use Rattle.float64.proofs.Interval.{In}
use Rattle.port.specs.Answer.{reply_age, refused}
use Rattle.common.specs.Reads.{Read, weight_at, age_at, largest_age}
use Rattle.common.proofs.Ages.{Aged, aged-of}
use Rattle.effect.specs.Effect.{Effect}
use Rattle.effect.specs.Run.{tick, number_at, says}
use Rattle.effect.specs.HearsBack.{EachRead, SomeRead, ReadsLines, age_of, WhenAccepted, HearsBack}
use Rattle.effect.proofs.Table.{if_none-some, accepted, tick-accepted}

-- What an effect shows: how its reads lie, and that they are at distances from 1 to L − 1.
pub record ReadLaws (E : Effect) (count : E.Tick → ℕ) (L : E.Settings → ℕ) : Type 0 where
  pub reads : ReadsLines E count L
  pub short : (s : E.State) → E.state_fits s ≡ true → L (E.settings s) - 1 ≤ 2 ^ 24
  pub distances : (t : E.Tick) (s : E.State) → E.state_fits s ≡ true → E.tick_number t (E.settings s) ≡ 0
      → EachRead (λ r. In binary64 (float_of 1) (float_of (L (E.settings s) - 1)) r.distance) (E.reads t s)

-- ---- the largest age of some reads

each-by : {P Q : Read → Type 0} → ((r : Read) → P r → Q r) → (rs : List Read) → EachRead P rs → EachRead Q rs
each-by f [] p = tt
each-by f (r ∷ rs) p = (f r p.0, each-by f rs p.1)

abbrev EachAged : ℕ → List Read → Type 0
EachAged M rs = EachRead (λ r. Aged M r.distance) rs

largest-low : (M : ℕ) (rs : List Read) → 0 < length rs → EachAged M rs → 1 ≤ largest_age rs
largest-low M [] l a = absurd (omega arith)
largest-low M (r ∷ rs) l a = omega (arith, a.0.age_low)

largest-none : (rs : List Read) → length rs ≡ 0 → largest_age rs ≡ 0
largest-none [] l = refl
largest-none (r ∷ rs) l = absurd (omega arith)

largest-high : (M : ℕ) (rs : List Read) → EachAged M rs → largest_age rs ≤ M
largest-high M [] a = omega arith
largest-high M (r ∷ rs) a = omega (arith, a.0.age_high, largest-high M rs a.1)

-- one of them has a weight above 0 there
one-weighs : (M : ℕ) (rs : List Read) → 0 < largest_age rs → EachAged M rs → SomeRead (λ r. lt plus_zero (weight_at r.distance (largest_age rs)) ≡ true) rs
one-weighs M [] l a = absurd (omega arith)
one-weighs M (r ∷ rs) l a =
    let weighs-at = λ (x : Read) (d : ℕ). lt plus_zero (weight_at x.distance d) ≡ true in
    elim (cases_lt (age_at r.distance) (largest_age rs)) [
      | inl k ↦
          let e : largest_age rs ≡ max (age_at r.distance) (largest_age rs) = omega arith in
          inr (subst (λ (d : ℕ). SomeRead (λ q. weighs-at q d) rs) e (one-weighs M rs (omega arith) a.1))
      | inr k ↦
          let e : age_at r.distance ≡ max (age_at r.distance) (largest_age rs) = omega arith in
          inl (subst (weighs-at r) e a.0.age_weighs)
    ]

-- and none any further back
none-beyond : (M k : ℕ) (rs : List Read) → largest_age rs ≤ k → EachAged M rs → EachRead (λ r. (d : ℕ) → k < d → weight_at r.distance d ≡ plus_zero) rs
none-beyond M k [] l a = tt
none-beyond M k (r ∷ rs) l a = (λ d h. a.0.age_oldest d (omega arith), none-beyond M k rs (omega arith) a.1)

-- ---- a tick

module _ (E : Effect) (count : E.Tick → ℕ) (L : E.Settings → ℕ) (laws : ReadLaws E count L) where
  -- of an accepted one the reads have their ages, and the largest is answered
  ages : WhenAccepted E (λ t h. EachAged (L (E.settings h.state) - 1) (E.reads t h.state))
  ages t h e =
      let s = h.state in
      let a = accepted E (length h.memory) (tick t) s e in
      let number = (tick-accepted E (length h.memory) t (E.settings s) a.number).number in
      each-by (λ r p. aged-of (L (E.settings s) - 1) (laws.short s a.state_fits) p) (E.reads t s) (laws.distances t s a.state_fits number)

  answered : WhenAccepted E (λ t h. largest_age (E.reads t h.state) ≡ age_of E t h)
  answered t h e = rw e refl

  low : WhenAccepted E (λ t h. 0 < count t → 1 ≤ largest_age (E.reads t h.state))
  low t h e some = largest-low (L (E.settings h.state) - 1) (E.reads t h.state) (omega (arith, laws.reads.many t h.state)) (ages t h e)

  pub hears-back : HearsBack E count L
  hears-back =
      record {
        reads = laws.reads;
        within = λ t h e some. (omega (arith, low t h e some, answered t h e), omega (arith, largest-high (L (E.settings h.state) - 1) (E.reads t h.state) (ages t h e), answered t h e));
        weighs = λ t h e some.
            let rs = E.reads t h.state in
            subst (λ (d : ℕ). SomeRead (λ r. lt plus_zero (weight_at r.distance d) ≡ true) rs) (answered t h e)
            (one-weighs (L (E.settings h.state) - 1) rs (low t h e some) (ages t h e));
        none-older = λ t h e. none-beyond (L (E.settings h.state) - 1) (age_of E t h) (E.reads t h.state) (omega (arith, answered t h e)) (ages t h e);
        none = λ t h e z. sym (answered t h e) ∙ largest-none (E.reads t h.state) (laws.reads.many t h.state ∙ z);
        refused = λ t h f. ap reply_age (if_none-some (number_at E (tick t) h) (says E (tick t) h) (refused (number_at E (tick t) h)) f);
      }
