-- Lists of arrivals taken in order, each with full delivery, and batches that stop at a refusal.
--
--   refusal_in, line_refusal_in        why a network refuses a draw; why it refuses a line
--   is_taken_in settings network arrival   whether it takes it: a draw that is not refused
--   run_of settings arrivals            from a fresh network; touches and refused arrivals change
--                                      nothing
--   log_refusal, batch_refusal         why a batch refuses a draw for its log, and any line
--   batch_of settings room network arrivals  the batch call with a log of so many places
use Rattle.std.specs.Prelude.{Bool, true, false, List, [], ◌∷◌, ◌++◌, ℕ, ◌+◌, ◌-◌, ltb, length, if◌then◌else◌}
use Rattle.model.specs.declared.Settings.{Settings}
use Rattle.model.specs.declared.Arrival.{Arrival}
use Rattle.model.specs.declared.Message.{Message}
use Rattle.model.specs.Choice.{is_zero}
use Rattle.model.specs.Refusals.{when, ◌or_else◌, no_refusal, log_too_short}
use Rattle.model.specs.Limits.{most_messages}
use Rattle.model.specs.Draws.{is_draw, is_taken}
use Rattle.model.specs.Site.{arrival_refusal, line_refusal}
use Rattle.model.specs.Network.{Network, fresh_network, site_at, after_arrival, after_line}

-- Of a draw: 5, 6, 7, 8.
abbrev pub refusal_in : Settings → Network → Arrival → ℕ
refusal_in settings network arrival =
    arrival_refusal settings (site_at network arrival.site) arrival

-- Of any line: a touch is tested for 5, 6 and 7 alone.
abbrev pub line_refusal_in : Settings → Network → Arrival → ℕ
line_refusal_in settings network arrival =
    line_refusal settings (site_at network arrival.site) arrival

-- ---- Runs

-- A draw that is not refused is taken. All else, a touch too, leaves the network as it was.
abbrev pub is_taken_in : Settings → Network → Arrival → Bool
is_taken_in settings network arrival = is_taken arrival (refusal_in settings network arrival)

-- A run keeps the network, the draws accepted in order, and all messages in order.
pub record Run : Type 0 where
  pub network : Network
  pub accepted : List Arrival
  pub messages : List Message

abbrev pub fresh_run : Settings → Run
fresh_run settings = record { network = fresh_network settings; accepted = []; messages = [] }

abbrev pub with_arrival : Settings → Run → Arrival → Run
with_arrival settings run arrival =
    let after = after_arrival settings run.network arrival in
    record {
      network = after.network;
      accepted = run.accepted ++ (arrival ∷ []);
      messages = run.messages ++ after.messages;
    }

abbrev pub run_one : Settings → Run → Arrival → Run
run_one settings run arrival =
    if is_taken_in settings run.network arrival
    then with_arrival settings run arrival
    else run

abbrev pub run_from : Settings → Run → List Arrival → Run
run_from settings run [] = run
run_from settings run (arrival ∷ arrivals) =
    run_from settings (run_one settings run arrival) arrivals

abbrev pub run_of : Settings → List Arrival → Run
run_of settings arrivals = run_from settings (fresh_run settings) arrivals

-- ---- Batches

-- A batch: the network, "draws accepted, messages written and the refusal that stopped it". Among
-- the accepted it counts touches: "the many-draw call still counts such a line".
pub record Batch : Type 0 where
  pub network : Network
  pub accepted : ℕ
  pub messages : List Message
  pub refusal : ℕ

-- "log lacks 23 × k + 2 free records before a draw": 14.
abbrev pub log_refusal : Settings → ℕ → ℕ
log_refusal settings free =
    when (ltb free (most_messages settings)) log_too_short
    or_else no_refusal

-- "for a draw 5, 6, 7, 8, 14": the log's free places are counted before each draw. A touch is
-- accepted "even .. with a full log".
abbrev pub batch_refusal : Settings → Network → ℕ → Arrival → ℕ
batch_refusal settings network free arrival =
    line_refusal_in settings network arrival
    or_else (if is_draw arrival then log_refusal settings free else no_refusal)

abbrev pub batch_from : Settings → ℕ → Batch → List Arrival → Batch
batch_from settings room batch [] = batch
batch_from settings room batch (arrival ∷ arrivals) =
    let free = room - length batch.messages in
    let refusal = batch_refusal settings batch.network free arrival in
    elim (is_zero refusal) [
      | true ↦
          (let after = after_line settings batch.network arrival in
          batch_from settings room
          (record {
            network = after.network;
            accepted = batch.accepted + 1;
            messages = batch.messages ++ after.messages;
            refusal = no_refusal;
          })
          arrivals)
      | false ↦ record {
        network = batch.network;
        accepted = batch.accepted;
        messages = batch.messages;
        refusal = refusal;
      }
    ]

abbrev pub fresh_batch : Network → Batch
fresh_batch network = record {
  network = network;
  accepted = 0;
  messages = [];
  refusal = no_refusal;
}

abbrev pub batch_of : Settings → ℕ → Network → List Arrival → Batch
batch_of settings room network arrivals =
    batch_from settings room (fresh_batch network) arrivals
