-- A read at a distance x multiplies by its weights; the age of one from 1 to M, the last place of its line, lies from 1 to M, the place so far back has a weight
-- above 0, and no place further back has one. And the largest age of up to three reads. Assumes nothing.
use Rattle.std.proofs.Common.{◌≡◌, ℕ, ◌+◌, ◌^◌, ◌<◌, ◌≤◌, ◌≢◌, max, Bool, true, false, cond, List, [], ◌∷◌, refl, ap, inl, inr, arith, eq-eqb, ne_eqb}
use Rattle.std.proofs.Math.Nat.{max-zero}
use Rattle.std.proofs.lemmas.Bool.{cases_order}
use lib.Ieee.{Float, binary64, add, lt}
use lib.Ieee.Bits.{is_true}
use Rattle.float64.specs.Number.{plus_zero, float_of, is_zero, whole_part, fraction_part}
use Rattle.float64.proofs.Interval.{In}
use Rattle.float64.proofs.Parts.{Parts, parts-of}
use Rattle.float64.proofs.Complement.{complement, Weights, weights-of}
use Rattle.common.specs.Signal.{blended}
use Rattle.common.specs.Line.{read_at}
use Rattle.common.specs.Reads.{Read, heard, weight_at, weighed, age_at, largest_age}

-- ---- the weights, whatever the distance

weight-first : (x : Float) → weight_at x (whole_part x) ≡ complement x
unfolding weight_at
weight-first x = rw (eq-eqb (whole_part x) (whole_part x) refl)

weight-second : (x : Float) → weight_at x (whole_part x + 1) ≡ fraction_part x
unfolding weight_at
weight-second x = rw (ne_eqb (whole_part x + 1) (whole_part x) (omega arith), eq-eqb (whole_part x + 1) (whole_part x + 1) refl)

pub weight-none : (x : Float) (d : ℕ) → d ≢ whole_part x → d ≢ whole_part x + 1 → weight_at x d ≡ plus_zero
unfolding weight_at
weight-none x d h k = rw (ne_eqb d (whole_part x) h, ne_eqb d (whole_part x + 1) k)

-- they are what a read multiplies by
pub read-weighs : (r : Read) (m : List Float) → heard r m ≡ add binary64 (weighed r m (whole_part r.distance)) (weighed r m (whole_part r.distance + 1))
unfolding read_at blended
read-weighs r m = rw (weight-first r.distance, weight-second r.distance)

-- nothing is lost in the two parts of a distance, nor in the two weights
pub exact-weights : (M : ℕ) → M ≤ 2 ^ 24 → {x : Float} → In binary64 (float_of 1) (float_of M) x
    → (add binary64 (float_of (whole_part x)) (fraction_part x) ≡ x) × (add binary64 (weight_at x (whole_part x)) (weight_at x (whole_part x + 1)) ≡ float_of 1)
exact-weights M h {x} i = let r = weights-of M h i in (r.fraction-exact, rw (weight-first x, weight-second x) r.complement-exact)

-- ---- the age

pub record Aged (M : ℕ) (x : Float) : Type 0 where
  pub age_low : 1 ≤ age_at x
  pub age_high : age_at x ≤ M
  pub age_weighs : lt plus_zero (weight_at x (age_at x)) ≡ true
  pub age_oldest : (d : ℕ) → age_at x < d → weight_at x d ≡ plus_zero

-- by whether the fraction is 0
at-age : (x : Float) (b : Bool) → is_zero (fraction_part x) ≡ b → age_at x ≡ whole_part x + cond b 0 1
unfolding age_at
at-age x b e = ap (λ (z : Bool). whole_part x + cond z 0 1) e

pub aged-of : (M : ℕ) → M ≤ 2 ^ 24 → {x : Float} → In binary64 (float_of 1) (float_of M) x → Aged M x
aged-of M h {x} i = go (is_zero (fraction_part x)) refl
  where
    p : Parts M x
    p = parts-of M h i

    r : Weights M x
    r = weights-of M h i

    go : (b : Bool) → is_zero (fraction_part x) ≡ b → Aged M x
    go true e =
        let a : age_at x ≡ whole_part x = omega (arith, at-age x true e) in
        record {
          age_low = omega (arith, p.at_least);
          age_high = omega (arith, p.at-most);
          age_weighs = rw (a, weight-first x) (is_true (lt plus_zero (complement x)) r.complement-above);
          age_oldest = λ d l. elim (cases_order d (whole_part x + 1)) [
            | inl z ↦ rw (z, weight-second x) (r.at-place e).0
            | inr z ↦ weight-none x d (omega arith) (omega arith)
          ];
        }
    go false e =
        let a : age_at x ≡ whole_part x + 1 = at-age x false e in
        let s = r.between e in
        record {
          age_low = omega arith;
          age_high = omega (arith, s.2);
          age_weighs = rw (a, weight-second x) (is_true (lt plus_zero (fraction_part x)) s.0);
          age_oldest = λ d l. weight-none x d (omega arith) (omega arith);
        }

-- ---- the largest age

pub oldest-one : (r : Read) → largest_age (r ∷ []) ≡ age_at r.distance
oldest-one r = max-zero (age_at r.distance)

pub oldest-two : (r q : Read) → largest_age (r ∷ q ∷ []) ≡ max (age_at r.distance) (age_at q.distance)
oldest-two r q = omega arith

pub oldest-three : (r q s : Read) → largest_age (r ∷ q ∷ s ∷ []) ≡ max (age_at r.distance) (max (age_at q.distance) (age_at s.distance))
oldest-three r q s = omega arith
