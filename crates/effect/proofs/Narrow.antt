-- An effect that supplies its state's fields, and whose state test keeps positions below 2^32, answers alike in both widths. Assumes what it supplies.
use Rattle.std.proofs.Common.{◌≡◌, ℕ, suc, ◌+◌, ◌%◌, ◌<◌, ◌≤◌, Float, true, false, List, [], ◌∷◌, length, get_or, map, refl, sym, ap, ◌∙◌, subst, mod-eq_of_lt, arith}
use native.Mathlib.Nat.{add-mod_right}
use Rattle.effect.specs.Effect.{Effect}
use Rattle.effect.specs.Run.{CallOf, Device, device_of, number_at, step, start, start_number, after, final}
use Rattle.effect.specs.Narrow.{Fields, AreFields, Alike, AllAlike, how_many, EachBelow, AllBelow, old_width, new_width, OfWidth, narrow, beyond, SameFields, Narrow}
use Rattle.effect.proofs.Laws.{Laws}
use Rattle.effect.proofs.Table.{false_where, accepted, settings-accepted}
use Rattle.effect.proofs.EachTick.{if_none-cases, after-keep, all-meet}
use Rattle.effect.proofs.Runs.{changed-fits, run_in}

-- ---- numbers of an array, and of all arrays

below-mod : (n : ℕ) (ws : List ℕ) → EachBelow n ws → map (λ w. w % n) ws ≡ ws
below-mod n [] b = refl
below-mod n (w ∷ ws) b = λ i. mod-eq_of_lt b.0 i ∷ below-mod n ws b.1 i

all-below-mod : (n : ℕ) (arrays : List (List ℕ)) → AllBelow n arrays → map (map (λ w. w % n)) arrays ≡ arrays
all-below-mod n [] b = refl
all-below-mod n (a ∷ rest) b = λ i. below-mod n a b.0 i ∷ all-below-mod n rest b.1 i

-- moved on by n and taken modulo n
turned : (n : ℕ) (ws : List ℕ) → map (λ w. w % n) (map (λ w. w + n) ws) ≡ map (λ w. w % n) ws
turned n [] = refl
turned n (w ∷ ws) = λ i. add-mod_right w n i ∷ turned n ws i

all-turned : (n : ℕ) (arrays : List (List ℕ)) → map (map (λ w. w % n)) (map (map (λ w. w + n)) arrays) ≡ map (map (λ w. w % n)) arrays
all-turned n [] = refl
all-turned n (a ∷ rest) = λ i. turned n a i ∷ all-turned n rest i

-- moved on by n, numbers below n lie below any m from 2 × n on, and not one of them below n
further : (n m : ℕ) (ws : List ℕ) → n + n ≤ m → EachBelow n ws → EachBelow m (map (λ w. w + n) ws)
further n m [] h b = tt
further n m (w ∷ ws) h b = (omega (arith, b.0, h), further n m ws h b.1)

all-further : (n m : ℕ) (arrays : List (List ℕ)) → n + n ≤ m → AllBelow n arrays → AllBelow m (map (map (λ w. w + n)) arrays)
all-further n m [] h b = tt
all-further n m (a ∷ rest) h b = (further n m a h b.0, all-further n m rest h b.1)

not-below : (n : ℕ) (arrays : List (List ℕ)) → 0 < how_many arrays → ¬ AllBelow n (map (map (λ w. w + n)) arrays)
not-below n [] some b = omega (arith, some)
not-below n ([] ∷ rest) some b = not-below n rest (omega (arith, some)) b.1
not-below n ((w ∷ ws) ∷ rest) some b = omega (arith, b.0.0)

-- an array each of whose numbers is below n, by index
pub below-each : (n : ℕ) (ws : List ℕ) → ((i : ℕ) → i < length ws → get_or ws i 0 < n) → EachBelow n ws
below-each n [] h = tt
below-each n (w ∷ ws) h = (h 0 (omega arith), below-each n ws (λ i l. h (suc i) (omega (arith, l))))

-- one position, in an array of its own
pub one-below : {n w : ℕ} → w < n → AllBelow n ((w ∷ []) ∷ [])
one-below h = ((h, tt), tt)

-- ---- what equal lists of arrays have in the same place: an array, or a number of one

pub same-array : {A : Type 0} {x y : List (List A)} → x ≡ y → (i : ℕ) → get_or x i [] ≡ get_or y i []
same-array e i = ap (λ arrays. get_or arrays i []) e

pub same-entry : {A : Type 0} (d : A) {x y : List (List A)} → x ≡ y → (i j : ℕ) → get_or (get_or x i []) j d ≡ get_or (get_or y i []) j d
same-entry d e i j = ap (λ array. get_or array j d) (same-array e i)

module _ (E : Effect) (F : Fields E.State) where
  -- What an effect shows: that these are its state's fields, and that 32 bits hold the positions of a state that passes its test, and of the one that a refused start
  -- gives.
  pub record Supplied (n : ℕ) : Type 0 where
    pub fields : AreFields E F n
    pub fits-below : (s : E.State) → E.state_fits s ≡ true → OfWidth E F new_width s
    pub blank-below : OfWidth E F new_width E.blank

  module _ (laws : Laws E) (n : ℕ) (own : Supplied n) where
    -- ---- one state

    narrow-same : (s : E.State) → OfWidth E F new_width s → SameFields E F s (narrow E F s)
    narrow-same s b =
        record {
          positions = sym (own.fields.mapped _ s ∙ all-below-mod new_width (F.positions s) b);
          count = sym (own.fields.count_stays _ s);
          floats = sym (own.fields.floats_stay _ s);
          flags = sym (own.fields.flags_stay _ s);
        }

    narrow-is : (s : E.State) → OfWidth E F new_width s → s ≡ narrow E F s
    narrow-is s b = own.fields.whole s (narrow E F s) (narrow-same s b)

    narrow-below : (s : E.State) → E.state_fits s ≡ true → OfWidth E F new_width (narrow E F s)
    narrow-below s f = subst (OfWidth E F new_width) (narrow-is s (own.fits-below s f)) (own.fits-below s f)

    only : (s t : E.State) → OfWidth E F new_width t → SameFields E F s t → t ≡ narrow E F s
    only s t b e = narrow-is t b ∙ ap (narrow E F) (sym (own.fields.whole s t e))

    refused : (s : E.State) → ¬ OfWidth E F new_width s → E.state_fits s ≡ false
    refused s w = false_where (E.state_fits s) (own.fits-below s) w

    -- ---- 2^32 further on

    beyond-narrowed : (s : E.State) → OfWidth E F new_width s → narrow E F (beyond E F s) ≡ s
    beyond-narrowed s b =
        own.fields.whole (narrow E F (beyond E F s)) s
        record {
          positions =
              own.fields.mapped _ (beyond E F s) ∙ ap (map (map (λ w. w % new_width))) (own.fields.mapped _ s) ∙ all-turned new_width (F.positions s)
              ∙ all-below-mod new_width (F.positions s) b;
          count = own.fields.count_stays _ (beyond E F s) ∙ own.fields.count_stays _ s;
          floats = own.fields.floats_stay _ (beyond E F s) ∙ own.fields.floats_stay _ s;
          flags = own.fields.flags_stay _ (beyond E F s) ∙ own.fields.flags_stay _ s;
        }

    beyond-old : (s : E.State) → OfWidth E F new_width s → OfWidth E F old_width (beyond E F s)
    beyond-old s b = rw (own.fields.mapped (λ w. w + new_width) s) (all-further new_width old_width (F.positions s) (omega arith) b)

    beyond-refused : (s : E.State) → 0 < how_many (F.positions s) → E.state_fits (beyond E F s) ≡ false
    beyond-refused s some = refused (beyond E F s) (rw (own.fields.mapped (λ w. w + new_width) s) (not-below new_width (F.positions s) some))

    -- ---- calls

    abbrev Fits : Device E.State → Type 0
    Fits h = E.state_fits h.state ≡ true

    step-fits : (c : CallOf E) (h : Device E.State) → Fits h → Fits (step E c h)
    step-fits c h f = if_none-cases Fits (number_at E c h) (λ e. changed-fits E laws c h (accepted E (length h.memory) c h.state e)) f

    after-fits : (cs : List (CallOf E)) (h : Device E.State) → Fits h → Fits (after E cs h)
    after-fits cs h f =
        after-keep E (λ t. Unit {0}) Fits (λ c u e m g. changed-fits E laws c u (accepted E (length u.memory) c u.state e)) cs h
        (all-meet E (λ t. Unit {0}) (λ t. tt) cs h) f

    -- a unit whose state passes is the unit with the narrowed state
    unit-is : (s : E.State) (m : List Float) → E.state_fits s ≡ true → device_of s m ≡ device_of (narrow E F s) m
    unit-is s m f = ap (λ t. device_of t m) (narrow-is s (own.fits-below s f))

    stays-of : (on : Device E.State → Device E.State) → ((h : Device E.State) → Fits h → Fits (on h)) → (s : E.State) (m : List Float)
        → E.state_fits s ≡ true → OfWidth E F new_width (on (device_of (narrow E F s) m)).state
    stays-of on keeps s m f =
        let h = device_of (narrow E F s) m in
        own.fits-below (on h).state (keeps h (subst Fits (unit-is s m f) f))

    starts : (a : E.Start) (m : List Float) → OfWidth E F new_width (start E a m).state
    starts a m =
        if_none-cases (λ (h : Device E.State). OfWidth E F new_width h.state) (start_number E a (length m))
        (λ e. own.fits-below (E.fresh (E.start_settings a)) (laws.start_fits a (settings-accepted E (length m) (E.start_settings a) e).number))
        own.blank-below

    pub narrows : Narrow E F n
    narrows =
        record {
          fields = own.fields;
          one = λ s f. (narrow-below s f, narrow-same s (own.fits-below s f));
          only = only;
          alike = λ c s m f. subst (Alike E F c (device_of s m)) (unit-is s m f) (record { replies = refl; state = refl; memory = refl });
          stays = λ c s m f. stays-of (λ h. step E c h) (step-fits c) s m f;
          all_alike = λ cs s m f. subst (AllAlike E F cs (device_of s m)) (unit-is s m f) (record { replies = refl; state = refl; memory = refl });
          all_stay = λ cs s m f. stays-of (λ h. after E cs h) (after-fits cs) s m f;
          starts = starts;
          runs = λ x. own.fits-below (final E x).state (run_in E laws x).state_fits;
          none = λ s t w e b. w (subst (OfWidth E F new_width) (sym (own.fields.whole s t e)) b);
          refused = refused;
          passes_narrowed = λ s f some.
              let b = own.fits-below s f in
              (beyond-old s b, beyond-refused s (subst (λ k. 0 < k) (sym (own.fields.counted s f)) some), beyond-narrowed s b);
        }
