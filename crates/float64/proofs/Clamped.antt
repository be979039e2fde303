-- A clamped value lies in its range, an infinity too, and what lies there passes as it is, −0 too. Raising to the lower end and then lowering to the upper one is the same for every value,
-- a NaN too. The ends of the range are finite and in order. Assumes nothing.
use Rattle.std.proofs.Common.{◌≡◌, Bool, true, false, cond, not, T, refl, ap, ◌∙◌}
use Rattle.std.proofs.lemmas.Float as floats
use lib.Ieee.{Float, binary64, fits, is_nan, le, lt}
use Rattle.float64.specs.Number.{is_number, clamp_of, at_least, at_most}
use Rattle.float64.proofs.Order.{le→not-lt, finite-num}
use Rattle.float64.proofs.Interval.{In, ends, box, in-finite, lo-fits, hi-fits, lo-finite, hi-finite}
use Rattle.float64.proofs.Ranges.{number_fits, number-num}

pub clamp-in : (x : Float) {lo hi : Float} → T (ends binary64 lo hi) → T (le lo hi) → is_number x ≡ true → In binary64 lo hi (clamp_of x lo hi)
unfolding clamp_of
clamp-in x {lo} {hi} t h k = go (lt x lo) (lt hi x) (floats.le_of_not-lt x lo (number-num x k) p) (floats.le_of_not-lt hi x q (number-num x k))
  where
    l : T (fits binary64 lo)
    l = lo-fits binary64 lo hi t

    u : T (fits binary64 hi)
    u = hi-fits binary64 lo hi t

    p : T (not (is_nan lo))
    p = finite-num lo (lo-finite binary64 lo hi t)

    q : T (not (is_nan hi))
    q = finite-num hi (hi-finite binary64 lo hi t)

    go : (b c : Bool) → (T (not b) → T (le lo x)) → (T (not c) → T (le x hi)) → In binary64 lo hi (cond b lo (cond c hi x))
    go true c i j = box t l (floats.le_refl lo p) h
    go false true i j = box t u h (floats.le_refl hi q)
    go false false i j = box t (number_fits x k) (i tt) (j tt)

-- between numbers, whatever their order, a number stays one
pub clamp-number : (x lo hi : Float) → is_number x ≡ true → is_number lo ≡ true → is_number hi ≡ true → is_number (clamp_of x lo hi) ≡ true
unfolding clamp_of
clamp-number x lo hi k l u = go (lt x lo) (lt hi x)
  where
    go : (b c : Bool) → is_number (cond b lo (cond c hi x)) ≡ true
    go true c = l
    go false true = u
    go false false = k

pub clamp-keeps : {x lo hi : Float} → In binary64 lo hi x → clamp_of x lo hi ≡ x
unfolding clamp_of
clamp-keeps {x} {lo} {hi} i =
    let l = lo-fits binary64 lo hi i.ends-ok in
    let u = hi-fits binary64 lo hi i.ends-ok in
    ap (λ (b : Bool). cond b lo (cond (lt hi x) hi x)) (le→not-lt binary64 lo x l i.fit i.lower) ∙ ap (λ (b : Bool). cond b hi x) (le→not-lt binary64 x hi i.fit u i.upper)

pub clamp-halves : (x lo hi : Float) → lt hi lo ≡ false → at_most (at_least x lo) hi ≡ clamp_of x lo hi
unfolding at_most at_least clamp_of
clamp-halves x lo hi h = go (lt x lo)
  where
    go : (b : Bool) → cond (lt hi (cond b lo x)) hi (cond b lo x) ≡ cond b lo (cond (lt hi x) hi x)
    go true = ap (λ (b : Bool). cond b hi lo) h
    go false = refl

-- what is lowered to hi lies at or below it
pub at_most_in : {lo top x : Float} (hi : Float) → T (ends binary64 lo hi) → T (le lo hi) → In binary64 lo top x → In binary64 lo hi (at_most x hi)
unfolding at_most
at_most_in {lo} {top} {x} hi t h i =
    go (lt hi x) (floats.le_of_not-lt hi x q (finite-num x (in-finite i)))
  where
    u : T (fits binary64 hi)
    u = hi-fits binary64 lo hi t

    q : T (not (is_nan hi))
    q = finite-num hi (hi-finite binary64 lo hi t)

    go : (b : Bool) → (T (not b) → T (le x hi)) → In binary64 lo hi (cond b hi x)
    go true k = box t u h (floats.le_refl hi q)
    go false k = box t i.fit i.lower (k tt)

-- so does any x that is lowered, if what comes of it is a number
pub at-most-le : (x hi : Float) → T (fits binary64 x) → T (fits binary64 hi) → T (not (is_nan hi)) → T (not (is_nan (at_most x hi))) → T (le (at_most x hi) hi)
unfolding at_most
at-most-le x hi f u q n = go (lt hi x) n (λ (p : T (not (is_nan x))). floats.le_of_not-lt hi x q p)
  where
    go : (b : Bool) → T (not (is_nan (cond b hi x))) → (T (not (is_nan x)) → T (not b) → T (le x hi)) → T (le (cond b hi x) hi)
    go true m k = floats.le_refl hi q
    go false m k = k m tt

pub at-most-fits : (x hi : Float) → T (fits binary64 x) → T (fits binary64 hi) → T (fits binary64 (at_most x hi))
unfolding at_most
at-most-fits x hi f u = go (lt hi x)
  where
    go : (b : Bool) → T (fits binary64 (cond b hi x))
    go true = u
    go false = f
