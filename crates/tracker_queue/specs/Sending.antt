-- Messages that go out in a delivery: each is written to the log, counted for the site that it
-- names, and waits last.
--
--   queue_of messages             the messages that wait, as code carries them: two at most
--   joined, without_head          a message waits last; the head is taken
--   sent, sent_if, sent_two       a message goes out; only if there is one; none, one or two
--   logged_if, logged_two         what is written to the log then
--   counted_if, counted_two       what is counted then
--   Countable                     a message that names a count, which is not too large
--   SendAsks, SendTwoAsks         what sending asks: free records, and messages that are countable
--   SendSays, AnswerSays, SendTwoSays  what it promises: the delivery then, the counts and the log
use Rattle.std.specs.Prelude.{◌≡◌, List, ℕ, ◌+◌, ◌*◌, ◌≤◌, ◌<◌, eqb, length, get_or, if◌then◌else◌}
use Rattle.model.specs.declared.Message.{Message}
use Rattle.model.specs.Choice.{is_zero}
use Rattle.model.specs.Limits.{most_sites, message_limit}
use Rattle.model.specs.Messages.{message_width, no_message}
use Rattle.model.specs.Site.{one_more_at}
use Rattle.model.specs.MessageCounts.{count_at}
use Rattle.tracker_queue.specs.declared.Queue.{Queue}
use Rattle.tracker_queue.specs.declared.Traffic.{Traffic}
use Rattle.tracker_queue.specs.Log.{put_record}

-- ---- The messages that wait

abbrev pub queue_of : List Message → Queue
queue_of messages = record {
  count = length messages;
  first = get_or messages 0 no_message;
  second = get_or messages 1 no_message;
}

abbrev pub nothing_waits : Queue
nothing_waits = record { count = 0; first = no_message; second = no_message }

abbrev pub one_waits : Message → Queue
one_waits m = record { count = 1; first = m; second = no_message }

abbrev pub joined : Queue → Message → Queue
joined queue m =
    if is_zero queue.count then one_waits m
    else record { count = 2; first = queue.first; second = m }

abbrev pub without_head : Queue → Queue
without_head queue = if eqb queue.count 2 then one_waits queue.second else nothing_waits

-- ---- A message goes out

abbrev pub sent : Traffic → Message → Traffic
sent traffic m = record {
  written = traffic.written + 1;
  waiting = joined traffic.waiting m;
}

-- A step answers with one message, or with none.
abbrev pub sent_if : ℕ → Traffic → Message → Traffic
sent_if count traffic m = if is_zero count then traffic else sent traffic m

abbrev pub logged_if : ℕ → List ℕ → ℕ → Message → List ℕ
logged_if count log place m = if is_zero count then log else put_record log place m

-- "a message belongs to the deck it names"
abbrev pub counted_if : ℕ → List ℕ → Message → List ℕ
counted_if count counts m = if is_zero count then counts else one_more_at counts m.site

-- An arrival sends none, one or two.
abbrev pub sent_two : ℕ → Traffic → Message → Message → Traffic
sent_two count traffic first second =
    if eqb count 2 then sent (sent_if count traffic first) second else sent_if count traffic first

abbrev pub logged_two : ℕ → List ℕ → ℕ → Message → Message → List ℕ
logged_two count log place first second =
    if eqb count 2
    then put_record (logged_if count log place first) (place + 1) second
    else logged_if count log place first

abbrev pub counted_two : ℕ → List ℕ → Message → Message → List ℕ
counted_two count counts first second =
    if eqb count 2
    then one_more_at (counted_if count counts first) second.site
    else counted_if count counts first

-- Its count is there, and no larger than the limit with what was written since.
pub record Countable (counts : List ℕ) (written : ℕ) (m : Message) : Type 0 where
  pub site_few : m.site < most_sites
  pub count_within : count_at counts m.site ≤ message_limit + written

pub record SendAsks (traffic : Traffic) (m : Message) (counts log : List ℕ) : Type 0 where
  pub room : message_width * traffic.written + message_width ≤ length log
  pub countable : Countable counts traffic.written m

pub record SendTwoAsks
    (count : ℕ)
    (traffic : Traffic)
    (first second : Message)
    (counts log : List ℕ) : Type 0 where
  pub room : message_width * traffic.written + message_width * count ≤ length log
  pub first_countable : (count ≡ 0 → ⊥) → Countable counts traffic.written first
  pub second_countable : count ≡ 2 → Countable counts traffic.written second

-- ---- What sending promises

pub record SendSays
    (before : Traffic)
    (m : Message)
    (countsBefore logBefore : List ℕ)
    (after : Traffic)
    (countsAfter logAfter : List ℕ) : Type 0 where
  pub goes_out : after ≡ sent before m
  pub counted : countsAfter ≡ one_more_at countsBefore m.site
  pub logged : logAfter ≡ put_record logBefore before.written m

pub record AnswerSays
    (count : ℕ)
    (before : Traffic)
    (m : Message)
    (countsBefore logBefore : List ℕ)
    (after : Traffic)
    (countsAfter logAfter : List ℕ) : Type 0 where
  pub goes_out : after ≡ sent_if count before m
  pub counted : countsAfter ≡ counted_if count countsBefore m
  pub logged : logAfter ≡ logged_if count logBefore before.written m

pub record SendTwoSays
    (count : ℕ)
    (before : Traffic)
    (first second : Message)
    (countsBefore logBefore : List ℕ)
    (after : Traffic)
    (countsAfter logAfter : List ℕ) : Type 0 where
  pub go_out : after ≡ sent_two count before first second
  pub counted : countsAfter ≡ counted_two count countsBefore first second
  pub logged : logAfter ≡ logged_two count logBefore before.written first second
