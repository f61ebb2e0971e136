-- The draws of a list (request N2): the list with its touches left out.
--
--   draws_of_draw, draws_of_touch     by its first arrival
--   draws_of_append, draws_of_twice   of two lists, and of draws
--   draws_above_zero                  all of a list of draws are above class 0
use mathlib.Core.Path.{◌≡◌, refl, sym, ap, ◌∙◌}
use mathlib.Core.Bool.{Bool, true, false}
use mathlib.Core.List.{List, [], ◌∷◌, ◌++◌}
use Prim.Native.Nat.{◌≤◌}
use native.Mathlib.Omega.{arith}
use lib.ListN.{length, drop}
use borrow.Author.Tests.{lt-ltb, leb-true}
use Rattle.model.specs.declared.Arrival.{Arrival}
use Rattle.model.specs.Limits.{least_drawn}
use Rattle.model.specs.Draws.{is_draw, draws_of}
use Rattle.model.specs.Claims.{counted, above}

pub draws_of_draw : (arrival : Arrival) (arrivals : List Arrival)
    → is_draw arrival ≡ true
    → draws_of (arrival ∷ arrivals) ≡ arrival ∷ draws_of arrivals
draws_of_draw arrival arrivals is_draw_lem = rw is_draw_lem

pub draws_of_touch : (arrival : Arrival) (arrivals : List Arrival)
    → is_draw arrival ≡ false
    → draws_of (arrival ∷ arrivals) ≡ draws_of arrivals
draws_of_touch arrival arrivals no_draw = rw no_draw

pub draws_of_append : (front later : List Arrival)
    → draws_of (front ++ later) ≡ draws_of front ++ draws_of later
draws_of_append [] later = refl
draws_of_append (arrival ∷ front) later =
    by_draw (is_draw arrival) refl (draws_of_append front later)
  where
    by_draw : (drawn : Bool) → is_draw arrival ≡ drawn
        → draws_of (front ++ later) ≡ draws_of front ++ draws_of later
        → draws_of (arrival ∷ (front ++ later)) ≡ draws_of (arrival ∷ front) ++ draws_of later
    by_draw true is_draw_lem rest = rw is_draw_lem (ap {B = List Arrival} (λ xs. arrival ∷ xs) rest)
    by_draw false no_draw rest = rw no_draw rest

-- Leaving touches out twice is leaving them out.
pub draws_of_twice : (arrivals : List Arrival) → draws_of (draws_of arrivals) ≡ draws_of arrivals
draws_of_twice [] = refl
draws_of_twice (arrival ∷ arrivals) = by_draw (is_draw arrival) refl (draws_of_twice arrivals)
  where
    by_draw : (drawn : Bool) → is_draw arrival ≡ drawn
        → draws_of (draws_of arrivals) ≡ draws_of arrivals
        → draws_of (draws_of (arrival ∷ arrivals)) ≡ draws_of (arrival ∷ arrivals)
    by_draw true is_draw_lem rest =
        rw is_draw_lem (draws_of_draw arrival (draws_of arrivals) is_draw_lem
        ∙ ap {B = List Arrival} (λ xs. arrival ∷ xs) rest)
    by_draw false no_draw rest = rw no_draw rest

tail_drawn : (arrival : Arrival) (arrivals : List Arrival)
    → draws_of (arrival ∷ arrivals) ≡ arrival ∷ arrivals
    → is_draw arrival ≡ true
    → draws_of arrivals ≡ arrivals
tail_drawn arrival arrivals drawn is_draw_lem =
    ap (λ (xs : List Arrival). drop 1 xs) (sym (draws_of_draw arrival arrivals is_draw_lem) ∙ drawn)

draws_of_shorter : (arrivals : List Arrival) → length (draws_of arrivals) ≤ length arrivals
draws_of_shorter [] = omega arith
draws_of_shorter (arrival ∷ arrivals) =
    by_draw (is_draw arrival) refl (draws_of_shorter arrivals)
  where
    by_draw : (drawn : Bool) → is_draw arrival ≡ drawn
        → length (draws_of arrivals) ≤ length arrivals
        → length (draws_of (arrival ∷ arrivals)) ≤ length (arrival ∷ arrivals)
    by_draw true is_draw_lem rest = rw is_draw_lem (omega (arith, rest))
    by_draw false no_draw rest = rw no_draw (omega (arith, rest))

pub draws_above_zero : (arrivals : List Arrival)
    → draws_of arrivals ≡ arrivals
    → above 0 arrivals ≡ counted arrivals
draws_above_zero [] drawn = refl
draws_above_zero (arrival ∷ arrivals) drawn =
    by_draw (is_draw arrival) refl (draws_above_zero arrivals)
  where
    by_draw : (is : Bool) → is_draw arrival ≡ is
        → (draws_of arrivals ≡ arrivals → above 0 arrivals ≡ counted arrivals)
        → above 0 (arrival ∷ arrivals) ≡ counted (arrival ∷ arrivals)
    by_draw true is_draw_lem rest =
        let more = rest (tail_drawn arrival arrivals drawn is_draw_lem) in
        rw (lt-ltb 0 arrival.value (leb-true least_drawn arrival.value is_draw_lem))
        (omega (arith, more))
    by_draw false no_draw rest =
        absurd (omega (
          arith,
          draws_of_shorter arrivals,
          ap length (sym (draws_of_touch arrival arrivals no_draw) ∙ drawn),
        ))
