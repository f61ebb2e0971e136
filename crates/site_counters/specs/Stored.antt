-- A counter as it stands in a site's memory: four numbers from a place on.
--
--   stored_at memory place           the counter that stands there; zeros past the end
--   set_counter memory place counter the memory with the counter stored there
--   counter_of stored               the model's counter that a `StoredCounter` is
--   greatest_word                   the greatest number that a place holds
--   PartsWithin counter             overcount and sent number within the count
use Rattle.std.specs.Prelude.{List, ℕ, ◌+◌, ◌*◌, ◌≤◌, get_or, set}
use Rattle.model.specs.Counters.{Counter}
use Rattle.site_counters.specs.declared.StoredCounter.{StoredCounter}

abbrev pub stored_at : List ℕ → ℕ → Counter
stored_at memory place = record {
  item = get_or memory (4 * place) 0;
  count = get_or memory (4 * place + 1) 0;
  overestimate = get_or memory (4 * place + 2) 0;
  reported = get_or memory (4 * place + 3) 0;
}

abbrev pub set_counter : List ℕ → ℕ → Counter → List ℕ
set_counter memory place counter =
    let item-set = set memory (4 * place) counter.item in
    let count_set = set item-set (4 * place + 1) counter.count in
    let overestimate-set = set count_set (4 * place + 2) counter.overestimate in
    set overestimate-set (4 * place + 3) counter.reported

abbrev pub counter_of : StoredCounter → Counter
counter_of stored = record {
  item = stored.item;
  count = stored.count;
  overestimate = stored.overestimate;
  reported = stored.reported;
}

-- The greatest number that a place of a site's memory holds.
abbrev pub greatest_word : ℕ
greatest_word = 4294967295

-- What the consistency test says of a counter: so its unreported arrivals are a true difference.
abbrev pub PartsWithin : Counter → Type 0
PartsWithin counter = counter.overestimate + counter.reported ≤ counter.count
