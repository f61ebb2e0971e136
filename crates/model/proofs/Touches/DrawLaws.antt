-- Draws and touches (request N2): which of the two an arrival is decides what it is refused for,
-- whether a run takes it, and what a batch does with it.
--
--   line_draw, line_touch, line_known   why a line is refused, by which it is; what 5, 6, 7 leave
--   line_by_address, line_by_room, line_of_touch   the same row by row
--   taken_drawn, taken_accepted         a taken arrival is a draw that is not refused
--   takes, not_taken, touch_left, refused_left   when an arrival is taken, and when not
--   after_draw, after_touch, line_few   an accepted line with full delivery
--   BatchTakes, batch_takes             what a batch asks of a draw that it accepts
--   batch_touch                         why a batch refuses a touch
--   LineTaken, line_taken               what a run and an accepted line come to, of either kind
use mathlib.Core.Path.{◌≡◌, refl, sym, ◌∙◌}
use mathlib.Core.Bool.{Bool, true, false, false≢true, ◌&&◌}
use mathlib.Core.List.{[], ◌∷◌, ◌++◌, append-nil}
use Prim.Native.Nat.{ℕ, zero, suc, ◌≤◌}
use native.Mathlib.Omega.{arith}
use lib.Dec.{ltb}
use lib.ListN.{length}
use borrow.Author.Tests.{eqb-true, eq-eqb, ne_eqb, ltb-false}
use Rattle.model.specs.declared.Settings.{Settings}
use Rattle.model.specs.declared.Arrival.{Arrival}
use Rattle.model.specs.declared.Phase.TheVariants.{Idle}
use Rattle.model.specs.Choice.{is_zero}
use Rattle.model.specs.Refusals.{◌or_else◌, no_refusal, log_too_short}
use Rattle.model.specs.Limits.{most_messages}
use Rattle.model.specs.Draws.{is_draw, draws_of, is_taken}
use Rattle.model.specs.Site.{Site, address_refusal, room_refusal, arrival_refusal, line_refusal}
use Rattle.model.specs.Network.{Network, site_at, as_it_was, after_arrival, after_line}
use Rattle.model.specs.Runs.{refusal_in, line_refusal_in, is_taken_in, Run, run_one, batch_refusal}
use Rattle.model.proofs.Deliveries.DeliveryTheorem.{delivery_claims}
use Rattle.model.proofs.Thresholds.RefusalLaws.{begin, pass_part, refuse_part, end, both_accepted, passed}

-- ---- Why a line is refused

module _ (settings : Settings) (site : Site) (arrival : Arrival) where
  pub line_draw : is_draw arrival ≡ true
      → line_refusal settings site arrival ≡ arrival_refusal settings site arrival
  line_draw is_draw_lem = rw is_draw_lem

  pub line_touch : is_draw arrival ≡ false
      → line_refusal settings site arrival ≡ address_refusal settings arrival
  line_touch no_draw = rw no_draw

  -- Deck, code and class of an accepted line are known, of a touch too.
  pub line_known : line_refusal settings site arrival ≡ no_refusal
      → address_refusal settings arrival ≡ no_refusal
  line_known none = by_draw (is_draw arrival) refl
    where
      by_draw : (drawn : Bool) → is_draw arrival ≡ drawn
          → address_refusal settings arrival ≡ no_refusal
      by_draw true is_draw_lem =
          (both_accepted (address_refusal settings arrival) (room_refusal site)
          (rw is_draw_lem at none)).first_accepted
      by_draw false no_draw = rw no_draw at none

  -- Row by row: 5, 6, 7 of any line, then 8 of a draw.
  pub line_by_address : (refusal : ℕ)
      → refusal ≡ address_refusal settings arrival
      → (refusal ≡ no_refusal → ⊥)
      → refusal ≡ line_refusal settings site arrival
  line_by_address refusal is refused = by_draw (is_draw arrival) refl
    where
      by_draw : (drawn : Bool) → is_draw arrival ≡ drawn
          → refusal ≡ line_refusal settings site arrival
      by_draw true is_draw_lem =
          refuse_part (address_refusal settings arrival) (room_refusal site)
          (begin (arrival_refusal settings site arrival)) refl is refused
          ∙ sym (line_draw is_draw_lem)
      by_draw false no_draw = is ∙ sym (line_touch no_draw)

  pub line_by_room : address_refusal settings arrival ≡ no_refusal
      → is_draw arrival ≡ true
      → room_refusal site ≡ line_refusal settings site arrival
  line_by_room none is_draw_lem =
      end (pass_part (address_refusal settings arrival) (room_refusal site)
      (begin (arrival_refusal settings site arrival)) refl none) refl
      ∙ sym (line_draw is_draw_lem)

  pub line_of_touch : address_refusal settings arrival ≡ no_refusal
      → is_draw arrival ≡ false
      → no_refusal ≡ line_refusal settings site arrival
  line_of_touch none no_draw = sym (line_touch no_draw ∙ none)

-- ---- Whether an arrival is taken

module _ (arrival : Arrival) (refusal : ℕ) where
  pub taken_drawn : is_taken arrival refusal ≡ true → is_draw arrival ≡ true
  unfolding is_taken
  taken_drawn taken = by_draw (is_draw arrival) taken
    where
      by_draw : (drawn : Bool) → (drawn && is_zero refusal) ≡ true → drawn ≡ true
      by_draw true both = refl
      by_draw false both = both

  pub taken_accepted : is_taken arrival refusal ≡ true → refusal ≡ no_refusal
  unfolding is_taken
  taken_accepted taken = by_draw (is_draw arrival) taken
    where
      by_draw : (drawn : Bool) → (drawn && is_zero refusal) ≡ true → refusal ≡ no_refusal
      by_draw true both = eqb-true refusal 0 both
      by_draw false both = absurd (false≢true both)

  pub takes : is_draw arrival ≡ true
      → refusal ≡ no_refusal
      → is_taken arrival refusal ≡ true
  unfolding is_taken
  takes is_draw_lem none = by_draw (is_draw arrival) is_draw_lem
    where
      by_draw : (drawn : Bool) → drawn ≡ true → (drawn && is_zero refusal) ≡ true
      by_draw true is = eq-eqb refusal 0 none
      by_draw false is = is

  -- Refused, or a touch.
  pub not_taken : (refusal ≡ no_refusal → is_draw arrival ≡ false)
      → is_taken arrival refusal ≡ false
  unfolding is_taken
  not_taken touches = by_draw (is_draw arrival) touches
    where
      by_draw : (drawn : Bool)
          → (refusal ≡ no_refusal → drawn ≡ false)
          → (drawn && is_zero refusal) ≡ false
      by_draw true touch = ne_eqb refusal 0 (λ none. false≢true (sym (touch none)))
      by_draw false touch = refl

  pub touch_left : is_draw arrival ≡ false → is_taken arrival refusal ≡ false
  touch_left no_draw = not_taken (λ _. no_draw)

module _ (settings : Settings) (network : Network) (arrival : Arrival) where
  pub refused_left : (line_refusal_in settings network arrival ≡ no_refusal → ⊥)
      → is_taken_in settings network arrival ≡ false
  refused_left refused = not_taken arrival _ (λ none. by_draw (is_draw arrival) refl none)
    where
      by_draw : (drawn : Bool) → is_draw arrival ≡ drawn
          → refusal_in settings network arrival ≡ no_refusal
          → is_draw arrival ≡ false
      by_draw true is_draw_lem none =
          absurd (refused
          (line_draw settings (site_at network arrival.site) arrival is_draw_lem ∙ none))
      by_draw false no_draw none = no_draw

  -- ---- An accepted line

  pub after_draw : is_draw arrival ≡ true
      → after_line settings network arrival ≡ after_arrival settings network arrival
  after_draw is_draw_lem = rw is_draw_lem

  pub after_touch : is_draw arrival ≡ false
      → after_line settings network arrival ≡ as_it_was network
  after_touch no_draw = rw no_draw

  -- It sends no more than a draw does.
  pub line_few : network.coordinator.phase ≡ Idle
      → length (after_line settings network arrival).messages ≤ most_messages settings
  line_few idle = by_draw (is_draw arrival) refl
    where
      by_draw : (drawn : Bool) → is_draw arrival ≡ drawn
          → length (after_line settings network arrival).messages ≤ most_messages settings
      by_draw true is_draw_lem =
          rw is_draw_lem (delivery_claims.few_messages settings network arrival idle)
      by_draw false no_draw = rw no_draw (omega arith)

  -- ---- In a batch

  -- A draw that a batch accepts is not refused, and the log has places for its messages.
  pub record BatchTakes (free : ℕ) : Type 0 where
    pub accepted : refusal_in settings network arrival ≡ no_refusal
    pub enough : most_messages settings ≤ free

  pub batch_takes : (free : ℕ) → is_draw arrival ≡ true
      → batch_refusal settings network free arrival ≡ no_refusal
      → BatchTakes free
  batch_takes free is_draw_lem none =
      let chain = both_accepted (refusal_in settings network arrival) _ (rw is_draw_lem at none) in
      let places = passed (ltb free (most_messages settings)) log_too_short _ (omega arith)
      chain.later_accepted in
      record {
        accepted = chain.first_accepted;
        enough = ltb-false _ _ places.test_failed;
      }

  -- A touch is refused for what it names alone.
  pub batch_touch : (free : ℕ) → is_draw arrival ≡ false
      → batch_refusal settings network free arrival ≡ address_refusal settings arrival
  batch_touch free no_draw = rw no_draw (nothing_more (address_refusal settings arrival))
    where
      nothing_more : (refusal : ℕ) → (refusal or_else no_refusal) ≡ refusal
      nothing_more zero = refl
      nothing_more (suc refusal) = refl

-- ---- An accepted line in a run

-- The run with it has the network and the messages of the line, and the draw, if it is one.
pub record LineTaken (settings : Settings) (run : Run) (arrival : Arrival) : Type 0 where
  pub network_is : (after_line settings run.network arrival).network
      ≡ (run_one settings run arrival).network
  pub messages_are : (run_one settings run arrival).messages
      ≡ run.messages ++ (after_line settings run.network arrival).messages
  pub accepted_are : (run_one settings run arrival).accepted
      ≡ run.accepted ++ draws_of (arrival ∷ [])

pub line_taken : (settings : Settings) (run : Run) (arrival : Arrival)
    → line_refusal_in settings run.network arrival ≡ no_refusal
    → LineTaken settings run arrival
line_taken settings run arrival none = by_draw (is_draw arrival) refl
  where
    by_draw : (drawn : Bool) → is_draw arrival ≡ drawn → LineTaken settings run arrival
    by_draw true is_draw_lem =
        let taken = takes arrival _ is_draw_lem (rw is_draw_lem at none) in
        record {
          network_is = rw (is_draw_lem, taken);
          messages_are = rw (is_draw_lem, taken);
          accepted_are = rw (is_draw_lem, taken);
        }
    by_draw false no_draw =
        let left = touch_left arrival (refusal_in settings run.network arrival) no_draw in
        record {
          network_is = rw (no_draw, left);
          messages_are = rw (no_draw, left) (sym (append-nil run.messages));
          accepted_are = rw (no_draw, left) (sym (append-nil run.accepted));
        }
