-- The reverb's places in use: they follow each other in the tank, each line's places are among them, and how many they are. Assumes nothing.
use Rattle.std.proofs.Common.{◌≡◌, ℕ, zero, suc, ◌+◌, ◌*◌, ◌≤◌, ◌<◌, List, [], ◌∷◌, ◌++◌, length, get_or, refl, subst, arith, suc-mul, le_of_suc-le-suc, not-suc-le-zero}
use Rattle.std.specs.List.{sum}
use Rattle.std.proofs.lemmas.List.Sums.{sum_by-cons}
use lib.Ieee.{Float}
use Rattle.effect.specs.Parts.{Part, part, sizes, InPart, here, further, InOrder}
use Rattle.effect.proofs.Parts.{earlier, order-append, in_left, in_right}
use Rattle.reverb.specs.declared.tunings.Lengths.{Lengths}
use Rattle.reverb.specs.Tunings.{Side, left, right, comb_size, comb_most, allpass_size, allpass_most, predelay_size, comb_tunings, allpass_tunings, comb_lengths, allpass_lengths, used_by, lengths_at}
use Rattle.reverb.specs.Tank.{combs_start, allpasses_start, predelay_start, tank_size, line_parts, parts}
use Rattle.reverb.proofs.Scaling.{lines-most}

-- ---- lines that lie `apart` places from each other

line-order : (o apart : ℕ) (ns : List ℕ) → ((i : ℕ) → get_or ns i 0 ≤ apart) → InOrder o (o + length ns * apart) (line_parts o apart ns)
unfolding line_parts
line-order o apart [] h = omega arith
line-order o apart (n ∷ ns) h =
    let rest = line-order (o + apart) apart ns (λ i. h (suc i)) in
    let e : o + apart + length ns * apart ≡ o + suc (length ns) * apart = omega (arith, suc-mul (length ns) apart) in
    (omega arith, earlier (o + n) (o + apart) _ (line_parts (o + apart) apart ns) (omega (arith, h 0)) (subst (λ (k : ℕ). InOrder (o + apart) k (line_parts (o + apart) apart ns)) e rest))

-- place w of line i
line-place : (o apart : ℕ) (ns : List ℕ) (i w : ℕ) → i < length ns → w < get_or ns i 0 → InPart (o + i * apart + w) (line_parts o apart ns)
unfolding line_parts
line-place o apart [] i w h l = absurd (not-suc-le-zero h)
line-place o apart (n ∷ ns) zero w h l = here (omega arith) (omega arith)
line-place o apart (n ∷ ns) (suc i) w h l =
    let e : o + apart + i * apart + w ≡ o + suc i * apart + w = omega (arith, suc-mul i apart) in
    further (subst (λ (p : ℕ). InPart p (line_parts (o + apart) apart ns)) e (line-place (o + apart) apart ns i w (le_of_suc-le-suc h) l))

-- ---- the tank

module _ (rate : Float) where
  abbrev combs_of : Side → List Part
  combs_of side = line_parts (combs_start side) comb_size (comb_lengths side rate)

  abbrev passes_of : Side → List Part
  passes_of side = line_parts (allpasses_start side) allpass_size (allpass_lengths side rate)

  comb-order : (side : Side) → InOrder (combs_start side) (combs_start side + 8 * comb_size) (combs_of side)
  comb-order left = line-order (combs_start left) comb_size (comb_lengths left rate) (λ i. omega (arith, lines-most comb_most comb_tunings left rate i))
  comb-order right = line-order (combs_start right) comb_size (comb_lengths right rate) (λ i. omega (arith, lines-most comb_most comb_tunings right rate i))

  pass-order : (side : Side) → InOrder (allpasses_start side) (allpasses_start side + 4 * allpass_size) (passes_of side)
  pass-order left = line-order (allpasses_start left) allpass_size (allpass_lengths left rate) (λ i. omega (arith, lines-most allpass_most allpass_tunings left rate i))
  pass-order right = line-order (allpasses_start right) allpass_size (allpass_lengths right rate) (λ i. omega (arith, lines-most allpass_most allpass_tunings right rate i))

  pub in_order : InOrder 0 tank_size (parts (lengths_at rate))
  unfolding parts
  in_order =
      let last = part predelay_start predelay_size ∷ [] in
      order-append 0 (combs_start right) tank_size (combs_of left) (combs_of right ++ (passes_of left ++ (passes_of right ++ last))) (comb-order left)
      (order-append (combs_start right) (allpasses_start left) tank_size (combs_of right) (passes_of left ++ (passes_of right ++ last)) (comb-order right)
      (order-append (allpasses_start left) (allpasses_start right) tank_size (passes_of left) (passes_of right ++ last) (pass-order left)
      (order-append (allpasses_start right) predelay_start tank_size (passes_of right) last (pass-order right)
      (omega arith, omega arith))))

  -- ---- each line's places

  pub comb-used : (side : Side) (i w : ℕ) → i < 8 → w < get_or (comb_lengths side rate) i 0 → InPart (combs_start side + i * comb_size + w) (parts (lengths_at rate))
  unfolding parts
  comb-used left i w h l = in_left (combs_of left) _ (line-place (combs_start left) comb_size (comb_lengths left rate) i w h l)
  comb-used right i w h l =
      in_right (combs_of left) _ (in_left (combs_of right) _ (line-place (combs_start right) comb_size (comb_lengths right rate) i w h l))

  pub pass-used : (side : Side) (i w : ℕ) → i < 4 → w < get_or (allpass_lengths side rate) i 0 → InPart (allpasses_start side + i * allpass_size + w) (parts (lengths_at rate))
  unfolding parts
  pass-used left i w h l =
      in_right (combs_of left) _ (in_right (combs_of right) _ (in_left (passes_of left) _ (line-place (allpasses_start left) allpass_size (allpass_lengths left rate) i w h l)))
  pass-used right i w h l =
      in_right (combs_of left) _ (in_right (combs_of right) _ (in_right (passes_of left) _ (in_left (passes_of right) _ (line-place (allpasses_start right) allpass_size (allpass_lengths right rate) i w h l))))

  pub predelay-used : (w : ℕ) → w < predelay_size → InPart (predelay_start + w) (parts (lengths_at rate))
  unfolding parts
  predelay-used w h =
      in_right (combs_of left) _ (in_right (combs_of right) _ (in_right (passes_of left) _ (in_right (passes_of right) _ (here (omega arith) (omega arith)))))

-- ---- how many they are

sizes-append : (ps qs : List Part) → sizes (ps ++ qs) ≡ sizes ps + sizes qs
sizes-append [] qs = omega arith
sizes-append (p ∷ ps) qs = omega (arith, sizes-append ps qs)

line-sizes : (o apart : ℕ) (ns : List ℕ) → sizes (line_parts o apart ns) ≡ sum ns
unfolding line_parts
line-sizes o apart [] = refl
line-sizes o apart (n ∷ ns) = omega (arith, line-sizes (o + apart) apart ns, sum_by-cons (λ k. k) n ns)

-- as the code adds them up
pub used-is : (n : Lengths) → sizes (parts n) ≡ used_by n.comb_l n.comb_r n.allpass_l n.allpass_r
unfolding parts
used-is n =
    let cl = line_parts (combs_start left) comb_size n.comb_l in
    let cr = line_parts (combs_start right) comb_size n.comb_r in
    let pl = line_parts (allpasses_start left) allpass_size n.allpass_l in
    let pr = line_parts (allpasses_start right) allpass_size n.allpass_r in
    let last = part predelay_start predelay_size ∷ [] in
    omega (
      arith,
      sizes-append cl (cr ++ (pl ++ (pr ++ last))),
      sizes-append cr (pl ++ (pr ++ last)),
      sizes-append pl (pr ++ last),
      sizes-append pr last,
      line-sizes (combs_start left) comb_size n.comb_l,
      line-sizes (combs_start right) comb_size n.comb_r,
      line-sizes (allpasses_start left) allpass_size n.allpass_l,
      line-sizes (allpasses_start right) allpass_size n.allpass_r,
    )

-- parts in order are no more than the places that they lie in
order-sizes : (o n : ℕ) (qs : List Part) → InOrder o n qs → o + sizes qs ≤ n
order-sizes o n [] h = omega (arith, h)
order-sizes o n (q ∷ qs) h = omega (arith, h.0, order-sizes (q.start + q.size) n qs h.1)

pub used-most : (rate : Float) → sizes (parts (lengths_at rate)) ≤ tank_size
used-most rate = omega (arith, order-sizes 0 tank_size (parts (lengths_at rate)) (in_order rate))
