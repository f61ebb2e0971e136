-- The library's calls through crate `history`'s example, in numbers: so the claims are about
-- something. Both starts, on rows and memories that hold other numbers; a draw that is refused; a
-- draw, and its messages handed over one by one; a touch among them; `tracker_run` on two draws and
-- a touch, stopped by 14; a reading. And a closing in mid-delivery.
--
--   bench_of held     the rows and memories of what is held
--   elsewhere         rows and memories that hold other numbers
--   ExampleUse        the chain of calls at its places, and what is listed at its end
use Rattle.std.specs.Prelude.{◌≡◌, [], ◌∷◌, replicate}
use Rattle.model.specs.Instances.{settings_a}
use Rattle.record_numbers.specs.Numbers.{sites_numbers, coordinator_numbers}
use Rattle.history.specs.State.{Held, carried_to, holding}
use Rattle.history_examples.specs.Example.{started_state, after_item_report, at_rest_again, after_batch_of_two}
use Rattle.library_history.specs.Bench.{Bench, held_in}
use Rattle.library_history.specs.Calls.{LoadCall, after_load}
use Rattle.library_history.specs.Used.{Used}
use Rattle.library_history.specs.Reading.{ListCall, codes_in}

abbrev pub bench_of : Held → Bench
bench_of held = record {
  decks = sites_numbers held.sites;
  deck_memory = held.site_memory;
  desk = coordinator_numbers held.coordinator;
  desk_memory = held.coordinator_memory;
}

abbrev pub elsewhere : Bench
elsewhere = record {
  decks = replicate 161 8;
  deck_memory = replicate 1050 5;
  desk = replicate 10 8;
  desk_memory = replicate 1036 9;
}

pub record ExampleUse : Type 0 where
  -- started; a refused draw leaves it so
  pub starts : Used settings_a (bench_of started_state.held) started_state
  -- a draw, and its first message handed to the desk; a touch leaves it so
  pub draws : Used settings_a (bench_of after_item_report.held) after_item_report
  -- the other four, one of them asked for
  pub delivers : Used settings_a (bench_of at_rest_again.held) at_rest_again
  -- many draws
  pub runs : Used settings_a (bench_of after_batch_of_two.held) after_batch_of_two
  -- code 7
  pub list : ListCall (bench_of after_batch_of_two.held)
  pub list_is : codes_in list ≡ 7 ∷ []
  -- saved with messages on their way, and read into other rows and memories
  pub closed : LoadCall elsewhere
  pub closed_used : Used settings_a (after_load closed)
      (holding after_item_report (held_in (after_load closed)))
  pub closed_same : held_in (after_load closed)
      ≡ carried_to settings_a (held_in (bench_of after_item_report.held)) elsewhere.deck_memory
      elsewhere.desk_memory
