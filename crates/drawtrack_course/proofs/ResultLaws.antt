-- The results: the list, the class and the count of the run that the session stands for.
--
--   listed_few, listed_below    how many items are listed, and that each is below the universe
--   class_few                   the line of the class is short
--   results_fine                the list is not refused
--   results_right               the three lines
use mathlib.Core.Path.{◌≡◌, refl, sym, ap, ◌∙◌}
use mathlib.Core.Bool.{Bool, true, false}
use mathlib.Core.List.{List, [], ◌∷◌, ◌++◌, append_assoc, append-nil}
use Prim.Native.Nat.{ℕ, zero, suc, ◌+◌, ◌≤◌, ◌<◌}
use native.Mathlib.Omega.{arith}
use lib.Dec.{eqb}
use lib.ListN.{length, get_or, take, length-append}
use borrow.Author.Tests.{eq-eqb, le-ltb}
use Rattle.model.specs.declared.Settings.{Settings}
use Rattle.model.specs.declared.Arrival.{Arrival}
use Rattle.model.specs.Choice.{is_zero}
use Rattle.model.specs.Refusals.{no_refusal}
use Rattle.model.specs.Coordinator.{Coordinator, enough}
use Rattle.model.specs.Network.{Network}
use Rattle.model.specs.Reading.{is_listed, listed_from, heavy_hitters, least_value_from, quantile_of}
use Rattle.model.specs.Runs.{Run}
use Rattle.model.specs.Transcript.{end_line, class_word, messages_word, quantile_word, result_lines}
use Rattle.model.proofs.Thresholds.SettingsLaws.{settled}
use Rattle.model.proofs.BetweenArrivals.ReportLaws.{value_count_is}
use Rattle.output_lines.specs.Promises.{counted_line, listed_line}
use Rattle.output_transcript.proofs.LineBounds.{line_claims}
use Rattle.coordinator_list.specs.Promises.{list_refusal}
use Rattle.history.proofs.RunSound.{sound_run, messages_within, run_names}
use Rattle.history.proofs.LoggedCounts.{total_of_log}
use Rattle.history.proofs.Accepted.{coordinator_accepted}
use Rattle.message_counts.specs.Totals.{total_held}
use Rattle.drawtrack_steps.specs.declared.Session.{Session}
use Rattle.output_lines.specs.Promises.{at_start, lines_after}
use Rattle.drawtrack_steps.specs.Outcome.{Buffers}
use Rattle.drawtrack_steps.specs.Steps.{session_coordinator, result_lines_of, listed_of, results_of}
use Rattle.laws.proofs.Writing.{joined}
use Rattle.output_lines.proofs.OutputLaws.{Fitted, fits_all}
use Rattle.drawtrack_course.specs.Course.{Represents, Room}
use Rattle.drawtrack_course.proofs.StateLaws.{run_after, state_ok}

-- ---- How long the list is

module _ (settings : Settings) (c : Coordinator) where
  pub listed_few : (more item : ℕ) → length (listed_from more item settings c) ≤ more
  listed_few zero item = omega arith
  listed_few (suc more) item = by_test (is_listed settings c item) refl (listed_few more (item + 1))
    where
      by_test : (listed : Bool) → is_listed settings c item ≡ listed
          → length (listed_from more (item + 1) settings c) ≤ more
          → length (listed_from (suc more) item settings c) ≤ suc more
      by_test true is-so later = rw is-so (omega arith)
      by_test false is-not later = rw is-not (omega arith)

  pub listed_below : (more item i : ℕ)
      → i < length (listed_from more item settings c)
      → get_or (listed_from more item settings c) i 0 < item + more
  listed_below zero item i inside = absurd (omega arith)
  listed_below (suc more) item i inside =
      by_test (is_listed settings c item) refl i inside (listed_below more (item + 1))
    where
      by_test : (listed : Bool) → is_listed settings c item ≡ listed
          → (j : ℕ) → j < length (listed_from (suc more) item settings c)
          → ((j : ℕ) → j < length (listed_from more (item + 1) settings c)
          → get_or (listed_from more (item + 1) settings c) j 0 < item + 1 + more)
          → get_or (listed_from (suc more) item settings c) j 0 < item + suc more
      by_test true is-so zero inside' later = rw is-so (omega arith)
      by_test true is-so (suc j) inside' later =
          rw is-so (omega (arith, later j (omega (arith, rw is-so at inside'))))
      by_test false is-not j inside' later =
          rw is-not (omega (arith, later j (rw is-not at inside')))

-- ---- How long the line of the class is

least_few : (rank total value below : ℕ) (counts : List ℕ)
    → value + length counts ≤ 1024
    → length (end_line (class_word
    ++ quantile_word (least_value_from rank total value below counts)))
    ≤ 17
least_few rank total value below [] few = omega (arith, line_claims.class_none)
least_few rank total value below (count ∷ counts) few =
    by_test (enough rank total (below + count)) refl
    (least_few rank total (value + 1) (below + count) counts (omega arith))
  where
    by_test : (found : Bool) → enough rank total (below + count) ≡ found
        → length (end_line (class_word
        ++ quantile_word (least_value_from rank total (value + 1) (below + count) counts)))
        ≤ 17
        → length (end_line (class_word
        ++ quantile_word (least_value_from rank total value below (count ∷ counts))))
        ≤ 17
    by_test true is-so later =
        rw (is-so, least_value_from) (line_claims.class_value value (omega arith))
    by_test false is-not later = rw (is-not, least_value_from) later

pub class_few : (settings : Settings) (c : Coordinator)
    → length c.histogram ≤ 1024
    → c.quantile ≤ 1023
    → length (end_line (class_word ++ quantile_word (quantile_of settings c))) ≤ 17
class_few settings c values within = by_threshold (eqb c.threshold 1) refl
  where
    by_total : (none : Bool) → is_zero c.total ≡ none → eqb c.threshold 1 ≡ true
        → length (end_line (class_word ++ quantile_word (quantile_of settings c))) ≤ 17
    by_total true none early = rw (early, none) (omega (arith, line_claims.class_none))
    by_total false some early =
        rw (early, some) (least_few settings.rank c.total 0 0 c.histogram (omega arith))

    by_threshold : (early : Bool) → eqb c.threshold 1 ≡ early
        → length (end_line (class_word ++ quantile_word (quantile_of settings c))) ≤ 17
    by_threshold true early = by_total (is_zero c.total) refl early
    by_threshold false late = rw late (line_claims.class_value c.quantile (omega arith))

-- ---- The three lines

module _ {session : Session} {given : Buffers} {arrivals : List Arrival}
    (stands : Represents session given.site_memory given.coordinator_memory arrivals)
    (room : Room given) where
  abbrev settings : Settings
  settings = session.settings

  abbrev run : Run
  run = run_after session arrivals

  abbrev c : Coordinator
  c = run.network.coordinator

  abbrev list_line : List ℕ
  list_line = listed_line (heavy_hitters settings c)

  abbrev class_line : List ℕ
  class_line = end_line (class_word ++ quantile_word (quantile_of settings c))

  abbrev count_line : List ℕ
  count_line = counted_line messages_word (length run.messages)

  -- The coordinator that the session holds is the run's.
  coordinator_is : session_coordinator session given ≡ c
  coordinator_is = ap (λ (network : Network). network.coordinator) stands.network_is

  list_few : length (heavy_hitters settings c) ≤ 1000
  list_few =
      omega (arith, listed_few settings c settings.universe 0, stands.few_items)

  pub results_fine : results_of session given ≡ listed_of session given
  results_fine =
      let rule = list_refusal settings session.coordinator given.coordinator_memory
      (length given.list) in
      let held = session_coordinator session given in
      let items : length (heavy_hitters settings held) ≤ length given.list =
      omega (
        arith,
        ap (λ (coordinator : Coordinator). length (heavy_hitters settings coordinator))
            coordinator_is,
        list_few,
        room.list_long,
      ) in
      let none : rule ≡ no_refusal =
      rw (
        coordinator_accepted stands.settings_accepted (state_ok stands),
        le-ltb (length given.list) (length (heavy_hitters settings held)) items,
      ) in
      rw (eq-eqb rule 0 none)

  -- ---- How long the lines are

  -- 4 * 1000 + 7
  list_line_few : length list_line ≤ 4007
  list_line_few =
      let below : (i : ℕ) → i < length (heavy_hitters settings c)
      → get_or (heavy_hitters settings c) i 0 < 1000 =
      λ i inside.
      omega (arith, listed_below settings c settings.universe 0 i inside, stands.few_items) in
      omega (arith, line_claims.listed 2 (heavy_hitters settings c) below, list_few)

  class_line_few : length class_line ≤ 17
  class_line_few =
      let sound = (sound_run settings stands.settings_accepted arrivals).sound in
      class_few settings c
      (omega (arith, sound.coordinator_sound.numbers.histogram_length, value_count_is))
      sound.coordinator_sound.numbers.quantile_within

  count_line_few : length count_line ≤ 30
  count_line_few =
      line_claims.count (length run.messages)
      (omega (arith, messages_within settings stands.settings_accepted arrivals))

  -- The sum of the counts is the number of messages, far below what 64 bits hold.
  count_is : total_held settings session.sites.messages ≡ length run.messages
  count_is =
      let passes = stands.settings_accepted in
      ap (total_held settings) stands.counts_are
      ∙ omega (
        arith,
        total_of_log run.messages settings.sites (run_names settings passes arrivals)
            (settled settings passes).sites.at_most,
        messages_within settings passes arrivals,
      )

  abbrev lines : List (List ℕ)
  lines = list_line ∷ (class_line ∷ (count_line ∷ []))

  lines_are : result_lines_of session (session_coordinator session given) ≡ lines
  lines_are = (λ i.
      listed_line (heavy_hitters settings (coordinator_is i))
      ∷ (end_line (class_word ++ quantile_word (quantile_of settings (coordinator_is i)))
      ∷ (counted_line messages_word (count_is i) ∷ [])))

  joined_lines : joined lines ≡ result_lines settings run
  joined_lines =
      ap (λ (last : List ℕ). list_line ++ (class_line ++ last)) (append-nil count_line)
      ∙ sym (append_assoc list_line class_line count_line)

  -- 4007 + 17 + 30
  fitted : Fitted (at_start given.out) (joined lines) (lines_after (at_start given.out) lines)
  fitted =
      fits_all lines (at_start given.out)
      (omega (
        arith,
        length-append list_line (class_line ++ (count_line ++ [])),
        length-append class_line (count_line ++ []),
        length-append count_line [],
        list_line_few,
        class_line_few,
        count_line_few,
        room.out_long,
      ))

  pub results_right : let there = listed_of session given in
      take there.moved.written there.left.out ≡ result_lines settings run
  results_right =
      (λ i.
      let written = lines_after (at_start given.out) (lines_are i) in
      take written.place written.out)
      ∙ fitted.bytes_are
      ∙ joined_lines
