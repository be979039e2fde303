-- Parts of a memory in order: which places are theirs, when they hold zeros, and what a zero put anywhere leaves of these. Assumes nothing.
use Rattle.std.proofs.Common.{◌≡◌, ℕ, ◌+◌, ◌-◌, ◌^◌, ◌≤◌, ◌<◌, Bool, true, ◌&&◌, List, [], ◌∷◌, ◌++◌, length, get_or, set, take, drop, refl, sym, ap, ◌∙◌, arith, length-take, length-drop, length-append, append-nil}
use mathlib.Core.Bool.{and_assoc}
use lib.Seq.{get_or-take, get_or-drop, length-take-le}
use lib.Ieee.{Float, nan, binary64}
use Rattle.float64.specs.Number.{float_of, is_zero}
use Rattle.float64.proofs.Interval.{In}
use Rattle.float64.proofs.Zeros.{Zero}
use Rattle.float64.proofs.Tests.{both, both-true}
use Rattle.common.specs.Line.{zeros, place, line_at, read_at, all_zero, nonzero, nonzeros}
use Rattle.common.proofs.Zeros.{zeros-append, zero-at, all-zero-by, cleared-part, zero-put-part}
use Rattle.common.proofs.Ring.{place-lt}
use Rattle.common.proofs.ZeroBlends.{read-zero}
use Rattle.effect.specs.Effect.{Write, laid, EachWritten}
use Rattle.common.proofs.Nonzeros.{nonzeros-append, put-before, put-behind, put-nonzeros}
use Rattle.effect.specs.Parts.{Part, part, first_places, sizes, held_in, InPart, here, further, InOrder}
use Rattle.effect.proofs.Laws.{Within, Below}

-- ---- which places

-- parts in order from o to n
pub ends-by : (o n : ℕ) (qs : List Part) → InOrder o n qs → o ≤ n
ends-by o n [] h = h
ends-by o n (q ∷ qs) h = omega (arith, h.0, ends-by (q.start + q.size) n qs h.1)

pub below : (o n : ℕ) (qs : List Part) {p : ℕ} → InOrder o n qs → InPart p qs → p < n
below o n [] h u = elim u [ ]
below o n (q ∷ qs) h (here a b) = omega (arith, ends-by (q.start + q.size) n qs h.1)
below o n (q ∷ qs) h (further u) = below (q.start + q.size) n qs h.1 u

pub least-place : (o n : ℕ) (qs : List Part) {p : ℕ} → InOrder o n qs → InPart p qs → o ≤ p
least-place o n [] h u = elim u [ ]
least-place o n (q ∷ qs) h (here a b) = omega (arith, h.0)
least-place o n (q ∷ qs) h (further u) = omega (arith, h.0, least-place (q.start + q.size) n qs h.1 u)

pub earlier : (o o' n : ℕ) (qs : List Part) → o ≤ o' → InOrder o' n qs → InOrder o n qs
earlier o o' n [] l h = omega (arith, h)
earlier o o' n (q ∷ qs) l h = (omega (arith, h.0), h.1)

-- some, and then some more
pub order-append : (o n k : ℕ) (ps qs : List Part) → InOrder o n ps → InOrder n k qs → InOrder o k (ps ++ qs)
order-append o n k [] qs h l = earlier o n k qs h l
order-append o n k (p ∷ ps) qs h l = (h.0, order-append (p.start + p.size) n k ps qs h.1 l)

pub in_left : (ps qs : List Part) {p : ℕ} → InPart p ps → InPart p (ps ++ qs)
in_left [] qs u = elim u [ ]
in_left (q ∷ ps) qs (here a b) = here a b
in_left (q ∷ ps) qs (further u) = further (in_left ps qs u)

pub in_right : (ps qs : List Part) {p : ℕ} → InPart p qs → InPart p (ps ++ qs)
in_right [] qs u = u
in_right (q ∷ ps) qs u = further (in_right ps qs u)

-- ---- zeros in them

pub held-append : (ps qs : List Part) (m : List Float) → all_zero (held_in (ps ++ qs) m) ≡ all_zero (held_in ps m) && all_zero (held_in qs m)
unfolding held_in all_zero
held-append [] qs m = refl
held-append (p ∷ ps) qs m =
    let part = take p.size (drop p.start m) in
    zeros-append part (held_in (ps ++ qs) m)
    ∙ ap (λ (b : Bool). all_zero part && b) (held-append ps qs m)
    ∙ sym (and_assoc (all_zero part) (all_zero (held_in ps m)) (all_zero (held_in qs m)))
    ∙ ap (λ (b : Bool). b && all_zero (held_in qs m)) (sym (zeros-append part (held_in ps m)))

pub one_part : (q : Part) (m : List Float) → all_zero (held_in (q ∷ []) m) ≡ all_zero (take q.size (drop q.start m))
unfolding held_in
one_part q m = ap all_zero (append-nil (take q.size (drop q.start m)))

pub first_zeros : (n : ℕ) (m : List Float) → all_zero (held_in (first_places n) m) ≡ all_zero (take n m)
first_zeros n m = one_part (part 0 n) m

pub cleared-parts : (qs : List Part) (n : ℕ) → all_zero (held_in qs (zeros n)) ≡ true
unfolding held_in all_zero
cleared-parts [] n = refl
cleared-parts (q ∷ qs) n =
    let part = take q.size (drop q.start (zeros n)) in
    zeros-append part (held_in qs (zeros n)) ∙ both-true (cleared-part q.start q.size n) (cleared-parts qs n)

-- each of their places is one
pub zero_in : (o n : ℕ) (qs : List Part) (m : List Float) {p : ℕ} → InOrder o n qs → n ≤ length m → all_zero (held_in qs m) ≡ true → InPart p qs
    → is_zero (get_or m p nan) ≡ true
unfolding held_in
zero_in o n [] m h l z u = elim u [ ]
zero_in o n (q ∷ qs) m {p} h l z (here a b) =
    let e = ends-by (q.start + q.size) n qs h.1 in
    let part = take q.size (drop q.start m) in
    let long = length-take-le q.size (drop q.start m) (omega (arith, length-drop q.start m)) in
    let at : p ≡ q.start + (p - q.start) = omega arith in
    let zero = zero-at part (p - q.start) nan (both (all_zero part) (all_zero (held_in qs m)) (sym (zeros-append part (held_in qs m)) ∙ z)).0 (omega (arith, long)) in
    ap (λ (i : ℕ). is_zero (get_or m i nan)) at
    ∙ ap is_zero (sym (get_or-take q.size (drop q.start m) (p - q.start) nan (omega arith) ∙ get_or-drop q.start m (p - q.start) nan))
    ∙ zero
zero_in o n (q ∷ qs) m h l z (further u) =
    let part = take q.size (drop q.start m) in
    zero_in (q.start + q.size) n qs m h.1 l (both (all_zero part) (all_zero (held_in qs m)) (sym (zeros-append part (held_in qs m)) ∙ z)).1 u

-- and where each is, they are zeros
pub parts-zero-by : (qs : List Part) (m : List Float) → ((p : ℕ) → InPart p qs → is_zero (get_or m p nan) ≡ true) → all_zero (held_in qs m) ≡ true
unfolding held_in all_zero
parts-zero-by [] m h = refl
parts-zero-by (q ∷ qs) m h =
    let part = take q.size (drop q.start m) in
    zeros-append part (held_in qs m)
    ∙ both-true
    (all-zero-by part nan (λ p k.
    let i : p < q.size = omega (arith, length-take q.size (drop q.start m)) in
    ap is_zero (get_or-take q.size (drop q.start m) p nan i ∙ get_or-drop q.start m p nan) ∙ h (q.start + p) (here (omega arith) (omega arith))))
    (parts-zero-by qs m (λ p u. h p (further u)))

-- ---- a zero that is put anywhere leaves zeros

put : (qs : List Part) (m : List Float) (p : ℕ) (x : Float) → is_zero x ≡ true → all_zero (held_in qs m) ≡ true → all_zero (held_in qs (set m p x)) ≡ true
unfolding held_in
put [] m p x z h = h
put (q ∷ qs) m p x z h =
    let b = both (all_zero (take q.size (drop q.start m))) (all_zero (held_in qs m)) (sym (zeros-append (take q.size (drop q.start m)) (held_in qs m)) ∙ h) in
    zeros-append (take q.size (drop q.start (set m p x))) (held_in qs (set m p x))
    ∙ both-true (zero-put-part q.start q.size m p x z b.0) (put qs m p x z b.1)

pub zeros-laid : (qs : List Part) (ws : List Write) (m : List Float) → EachWritten Zero ws → all_zero (held_in qs m) ≡ true
    → all_zero (held_in qs (laid ws m)) ≡ true
zeros-laid qs [] m z h = h
zeros-laid qs (w ∷ ws) m z h = zeros-laid qs ws (set m w.place w.value) z.1 (put qs m w.place w.value z.0 h)

-- ---- how many of them are none of the zeros

-- they hold as many floats as they have places
pub held-length : (o n : ℕ) (qs : List Part) (m : List Float) → InOrder o n qs → n ≤ length m → length (held_in qs m) ≡ sizes qs
unfolding held_in
held-length o n [] m h l = refl
held-length o n (q ∷ qs) m h l =
    let part = take q.size (drop q.start m) in
    let e = ends-by (q.start + q.size) n qs h.1 in
    omega (arith, length-append part (held_in qs m), length-take q.size (drop q.start m), length-drop q.start m, held-length (q.start + q.size) n qs m h.1 l)

-- what is put before all of them leaves them
put-before-all : (o n : ℕ) (qs : List Part) (m : List Float) (p : ℕ) (x : Float) → InOrder o n qs → p < o → held_in qs (set m p x) ≡ held_in qs m
unfolding held_in
put-before-all o n [] m p x h l = refl
put-before-all o n (q ∷ qs) m p x h l = λ i.
    put-before q.start q.size m p x (omega (arith, h.0)) i ++ put-before-all (q.start + q.size) n qs m p x h.1 (omega (arith, h.0)) i

-- x put in one of their places, which is in no other of them
pub put-in : (o n : ℕ) (qs : List Part) (m : List Float) {p : ℕ} (x : Float) → InOrder o n qs → n ≤ length m → InPart p qs
    → nonzeros (held_in qs (set m p x)) + nonzero (get_or m p nan) ≡ nonzeros (held_in qs m) + nonzero x
unfolding held_in
put-in o n [] m x h l u = elim u [ ]
put-in o n (q ∷ qs) m {p} x h l (here a b) =
    let part = λ (d : List Float). take q.size (drop q.start d) in
    let now = put-nonzeros q.start q.size m p x a b (omega (arith, ends-by (q.start + q.size) n qs h.1)) in
    let rest = ap nonzeros (put-before-all (q.start + q.size) n qs m p x h.1 b) in
    omega (arith, nonzeros-append (part (set m p x)) (held_in qs (set m p x)), nonzeros-append (part m) (held_in qs m), now, rest)
put-in o n (q ∷ qs) m {p} x h l (further u) =
    let part = λ (d : List Float). take q.size (drop q.start d) in
    let now = ap nonzeros (put-behind q.start q.size m p x (least-place (q.start + q.size) n qs h.1 u)) in
    omega (arith, nonzeros-append (part (set m p x)) (held_in qs (set m p x)), nonzeros-append (part m) (held_in qs m), now, put-in (q.start + q.size) n qs m x h.1 l u)

-- ---- a line of L places from place o on, all of them in the parts

pub line-zero : (n : ℕ) (qs : List Part) (m : List Float) (o L w : ℕ) → InOrder 0 n qs → n ≤ length m → all_zero (held_in qs m) ≡ true
    → ((p : ℕ) → p < L → InPart (o + p) qs) → w < L → (d : ℕ) → is_zero (line_at o L w m d) ≡ true
line-zero n qs m o L w h l z u k d = zero_in 0 n qs m h l z (u (place L w d) (place-lt L w d k))

-- ---- the first n places

module _ (n : ℕ) where
  pub first_in_order : InOrder 0 n (first_places n)
  first_in_order = (omega arith, omega arith)

  first_in : {p : ℕ} → p < n → InPart p (first_places n)
  first_in h = here (omega arith) (omega arith)

  pub within_first : (ws : List Write) → Below n ws → Within (λ p. InPart p (first_places n)) ws
  within_first [] h = tt
  within_first (w ∷ ws) h = (first_in h.0, within_first ws h.1)

  -- a read of a line of L places from place o on among them
  pub first-read : (o L w : ℕ) (m : List Float) (x : Float) → n ≤ length m → all_zero (held_in (first_places n) m) ≡ true → o + L ≤ n → w < L → L ≤ 2 ^ 24 + 1
      → In binary64 (float_of 1) (float_of (L - 1)) x
      → is_zero (read_at (line_at o L w m) x) ≡ true
  first-read o L w m x l z h k b i =
      read-zero (line_at o L w m) (L - 1) x (omega arith) i (line-zero n (first_places n) m o L w first_in_order l z (λ p j. first_in (omega arith)) k)
