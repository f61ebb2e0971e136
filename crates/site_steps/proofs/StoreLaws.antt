-- An arrival stored in a site's memory, call by call: what each part requires holds of a sound
-- site, and the parts together are the model's step.
--
--   dropped_small                                       what is forgotten fits its number
--   count_asks, report_asks, value_place, value_small   what each call requires
--   stored_arrival     the promise of `store_arrival`
--   observed_step      the promise of `observe_step`
use Rattle.std.specs.Prelude.{if◌then◌else◌}
use Rattle.std.specs.Bool.{then_some}
use Prim.Native.Nat.{ℕ, ◌+◌, ◌*◌, ◌<◌, ◌≤◌}
use Rattle.site_counters.specs.Stored.{PartsWithin}
use mathlib.Core.Path.{◌≡◌, refl, ap, sym, ◌∙◌, subst, subst₂}
use mathlib.Core.List.{List, [], ◌∷◌, ◌++◌}
use mathlib.Core.Bool.{Bool, true, false}
use native.Mathlib.Nat.{mul-le-mul_right}
use native.Mathlib.Omega.{arith}
use lib.Dec.{leb, eqb}
use lib.ListN.{length, get_or}
use Rattle.model.specs.declared.Settings.{Settings}
use Rattle.model.specs.declared.SiteRecord.{SiteRecord}
use Rattle.model.specs.declared.Arrival.{Arrival}
use Rattle.model.specs.declared.Message.{Message}
use Rattle.model.specs.Messages.{item_report, count_report}
use Rattle.model.specs.Limits.{most_capacity, value_count, site_limit}
use Rattle.model.specs.Counters.{Counter, counter_at, gone_with}
use Rattle.model.specs.Site.{Site, observed, one_more_at, place_for, counters_with, leaving_for, reports_item}
use Rattle.model.specs.SiteMemory.{counter_words, site_in, site_record, counter_numbers, overwrite}
use Rattle.model.specs.SoundNetwork.{SoundSite}
use Rattle.model.proofs.Thresholds.SettingsLaws.{Settled, settled}
use Rattle.model.proofs.BetweenArrivals.ReportLaws.{value_counted}
use Rattle.model.proofs.Soundness.ConsistentSites.{length_counters_in}
use Rattle.model.proofs.Soundness.SoundSites.{ArrivalTaken, taken_of_no_refusal, CountedAt, sound_counted, sound_observed}
use Rattle.site_counters.specs.Stored.{greatest_word, counter_of}
use Rattle.site_counting.specs.declared.Counted.{Counted}
use Rattle.site_counting.specs.Count.{CountItemAsks, CountItemSays}
use Rattle.site_memory.proofs.ValueLaws.{get_d_le_sum}
use Rattle.site_steps.specs.Steps.{ObserveAsks, ReportAsks, ReportSays, StoreSays, sent, messages_due, GatherSays, ObserveStepSays}
use Rattle.site_steps.specs.declared.StoredArrival.{StoredArrival}
use Rattle.site_steps.specs.declared.Observed.{Observed}
use Rattle.site_steps.proofs.ObserveMemory.{counters_reported, length_counters_reported, memory_reported, value_kept, memory_observed}

module _
    (settings : Settings)
    (numbers : SiteRecord)
    (arrival : Arrival)
    (before : List ℕ)
    (asks : ObserveAsks settings numbers arrival before) where
  -- ---- What is known at the start

  abbrev site : Site
  site = site_in settings numbers before

  sound : SoundSite settings (site_in settings numbers before)
  sound = asks.ready.site_sound

  taken : ArrivalTaken settings (site_in settings numbers before) arrival
  taken = taken_of_no_refusal settings site arrival asks.not_refused

  capacity_known : Settled settings
  capacity_known = settled settings asks.ready.settings_accepted

  used_within : numbers.used ≤ settings.capacity
  used_within = omega (arith, sound.few_counters, length_counters_in numbers.used before)

  counted_at : CountedAt settings (site_in settings numbers before) arrival
  counted_at = sound_counted capacity_known.capacity.at_least taken sound

  pub value_within : arrival.value < value_count
  value_within = value_counted arrival.value taken.known.value_known

  pub room : numbers.arrivals < site_limit
  room = taken.room

  -- What is forgotten then is far from the end of its range: at most the arrivals, and a limit for
  -- each counter.
  pub dropped_small : numbers.dropped
      + gone_with (leaving_for settings (site_in settings numbers before) arrival)
      ≤ site_limit + most_capacity * site_limit
  dropped_small =
      omega (
        arith,
        (sound_observed capacity_known.capacity.at_least taken sound).dropped_bounded,
        taken.room,
        mul-le-mul_right site_limit capacity_known.capacity.at_most,
      )

  -- ---- What each call requires

  pub count_asks : CountItemAsks before settings.capacity numbers.used
  count_asks = record {
    fits = omega (arith, asks.ready.long_enough);
    some = capacity_known.capacity.at_least;
    within = used_within;
    small = λ place inside.
        let counter =
        sound.counters_sound place (rw (length_counters_in numbers.used before) inside) in
        omega (arith, counter.count_within, taken.room);
    parts_within = λ place inside.
        (sound.counters_sound place (rw (length_counters_in numbers.used before) inside)
        ).within_count;
  }

  module _
      (stored : List ℕ)
      (counted : Counted)
      (says : CountItemSays before stored settings.capacity numbers.used arrival.item
      counted)
      (stored-long : length stored ≡ length before) where
    pub report_asks : ReportAsks stored counted.place (counter_of counted.counter)
    report_asks = record {
      fits = omega (
        arith,
        says.place,
        counted_at.inside,
        counted_at.few,
        asks.ready.long_enough,
      );
      parts_within = subst PartsWithin (sym says.counter) counted_at.here.within_count;
    }

    module _
        (reported : List ℕ)
        (due : Bool)
        (report : ReportSays stored reported counted.place (counter_of counted.counter)
        numbers.threshold due)
        (reported-long : length reported ≡ length stored) where
      -- The report is the model's, at its place and of its counter.
      model_report : ReportSays stored reported
          (place_for settings (site_in settings numbers before) arrival)
          (counter_at (counters_with settings (site_in settings numbers before) arrival)
          (place_for settings (site_in settings numbers before) arrival))
          numbers.threshold due
      model_report =
          subst₂ (λ (p : ℕ) (x : Counter). ReportSays stored reported p x numbers.threshold due)
          says.place says.counter report

      reported_is : reported
          ≡ overwrite
          (counter_numbers (counters_reported settings (site_in settings numbers before) arrival))
          before
      reported_is =
          memory_reported settings site arrival before stored reported
          counted_at.inside says.memory model_report.memory

      pub value_place : counter_words settings + arrival.value < length reported
      value_place = omega (arith, asks.ready.long_enough, value_within)

      pub value_small : get_or reported (counter_words settings + arrival.value) 0 < greatest_word
      value_small =
          omega (
            arith,
            value_kept settings numbers arrival before reported asks.ready.long_enough
                value_within counted_at.few reported_is,
            get_d_le_sum site.histogram arrival.value,
            sound.histogram_sum,
            taken.room,
          )

      pub stored_arrival : (after : List ℕ)
          → after ≡ one_more_at reported (counter_words settings + arrival.value)
          → (gone : ℕ)
          → gone ≡ gone_with counted.leaving
          → StoreSays settings numbers arrival before after
          (record { used = counted.used; due = due; gone = gone })
      stored_arrival after after_is gone gone_is = record {
        used_then = says.used_then ∙ sym (length_counters_reported settings site arrival);
        due_is = model_report.due_is;
        gone_is = gone_is ∙ ap gone_with says.leaving;
        memory = after_is
            ∙ memory_observed settings numbers arrival before reported asks.ready.long_enough
            value_within counted_at.few reported_is;
      }

-- ---- The record and the messages that go out

-- A message goes out if it is due.
sent_due : (due : Bool) (message : Message)
    → sent (then_some due message) ≡ (if due then message ∷ [] else [])
sent_due true message = refl
sent_due false message = refl

module _
    (settings : Settings)
    (numbers : SiteRecord)
    (arrival : Arrival)
    (before after : List ℕ)
    (stored : StoredArrival)
    (says : StoreSays settings numbers arrival before after stored)
    (pending value : ℕ)
    (pending-is : pending
    ≡ (if leb numbers.threshold (numbers.pending + 1) then 0 else numbers.pending + 1))
    (value_is : value ≡ (if eqb numbers.threshold 1 then arrival.value else 0)) where
  record_observed : ◌≡◌ {A = SiteRecord}
      (record {
        arrivals = numbers.arrivals + 1;
        pending = pending;
        threshold = numbers.threshold;
        used = stored.used;
        dropped = numbers.dropped + stored.gone;
      })
      (site_record (observed settings (site_in settings numbers before) arrival).site)
  record_observed = λ i. record {
    arrivals = numbers.arrivals + 1;
    pending = pending-is i;
    threshold = numbers.threshold;
    used = says.used_then i;
    dropped = numbers.dropped + says.gone_is i;
  }

  messages_observed : (itemMessage countMessage : Message)
      → itemMessage ≡ item_report arrival.site arrival.item numbers.threshold
      → countMessage ≡ count_report arrival.site numbers.threshold value
      → messages_due (then_some stored.due itemMessage)
      (then_some (leb numbers.threshold (numbers.pending + 1)) countMessage)
      ≡ (observed settings (site_in settings numbers before) arrival).messages
  messages_observed itemMessage countMessage item-is count_is =
      let due-then = leb numbers.threshold (numbers.pending + 1) in
      let count-then = count_is ∙ ap (count_report arrival.site numbers.threshold) value_is in
      (λ i. messages_due (then_some (says.due_is i) (item-is i))
      (then_some due-then (count-then i)))
      ∙ (λ i. sent_due (reports_item settings (site_in settings numbers before) arrival)
      (item_report arrival.site arrival.item numbers.threshold) i
      ++ sent_due due-then
      (count_report arrival.site numbers.threshold
      (if eqb numbers.threshold 1 then arrival.value else 0)) i)

  pub observed_step : (itemMessage countMessage : Message) (answer : Observed)
      → itemMessage ≡ item_report arrival.site arrival.item numbers.threshold
      → countMessage ≡ count_report arrival.site numbers.threshold value
      → GatherSays
      (record {
        arrivals = numbers.arrivals + 1;
        pending = pending;
        threshold = numbers.threshold;
        used = stored.used;
        dropped = numbers.dropped + stored.gone;
      })
      (messages_due (then_some stored.due itemMessage)
      (then_some (leb numbers.threshold (numbers.pending + 1)) countMessage))
      answer
      → ObserveStepSays settings numbers arrival before after answer
  observed_step itemMessage countMessage answer item-is count_is gathered = record {
    gathered =
        subst₂ (λ (r : SiteRecord) (ms : List Message). GatherSays r ms answer)
        record_observed
        (messages_observed itemMessage countMessage item-is count_is)
        gathered;
    memory = says.memory;
  }
