-- A history: calls one after another from the two start calls on, each given the records and memory
-- as the calls before left them (document 01, "Whole lists of draws").
--
--   Reachable settings state           the states of all histories under these settings, closed and
--                                      opened again anywhere
--   held_at_start history              what its start calls left, in the memories that it was last
--                                      read into
--   Deliveries settings start n state  n steps of delivery, with refused calls between them
--   delivered_in history               how many steps of delivery it has had since its last arrival
use Rattle.std.specs.Prelude.{◌≡◌, List, [], ℕ, suc, take}
use Rattle.model.specs.declared.Settings.{Settings}
use Rattle.model.specs.declared.Sites.{Sites}
use Rattle.model.specs.declared.CoordinatorRecord.{CoordinatorRecord}
use Rattle.model.specs.Refusals.{no_refusal}
use Rattle.site_start.specs.Starts.{SitesStart, StartSitesSays}
use Rattle.coordinator.specs.Calls.{CoordinatorStart, StartCoordinatorSays}
use Rattle.snapshot_file.specs.Answers.{LoadAnswer, SaveAnswer}
use Rattle.snapshot_file.specs.Calls.{SaveSays, LoadSays}
use Rattle.history.specs.State.{Held, held_by, State, fronts, lending, with_part, carried_to, holding}
use Rattle.history.specs.Steps.{Delivers, Refuses, Step, arrives, delivers, refuses}

-- Both started: no message and no arrival yet.
abbrev pub start_state : Sites → CoordinatorRecord → List ℕ → List ℕ → State
start_state sites coordinator site_memory coordinator_memory = record {
  held = held_by sites coordinator site_memory coordinator_memory;
  waiting = [];
  accepted = [];
  messages = [];
  log = [];
  logged = 0;
}

-- Every history is one of these, and every state of it is reachable.
pub data Reachable (settings : Settings) : State → Type 0 where
  -- "The list starts at a bench started fresh": both start calls are accepted, on the first so
  -- many numbers of memories of any content and length
  started : (site_memory : List ℕ) (site_count : ℕ) (site_part : List ℕ) (sites : SitesStart)
      (coordinator_memory : List ℕ) (coordinator_count : ℕ) (coordinator_part : List ℕ)
      (coordinator : CoordinatorStart)
      → StartSitesSays settings (take site_count site_memory) site_part sites
      → sites.refusal ≡ no_refusal
      → StartCoordinatorSays settings (take coordinator_count coordinator_memory) coordinator_part
      coordinator
      → coordinator.refusal ≡ no_refusal
      → Reachable settings
      (start_state sites.sites coordinator.coordinator
      (with_part site_memory 0 site_count site_part)
      (with_part coordinator_memory 0 coordinator_count coordinator_part))
  stepped : (before after : State)
      → Reachable settings before
      → Step settings before after
      → Reachable settings after
  -- Request N3: "A bench saved and read goes on exactly as one never closed": saved to lent bytes
  -- from the first so many numbers of both memories, and read from these bytes into whatever
  -- memory, in mid-delivery too; the messages on their way are the caller's to keep
  reopened : (before : State) (site_count coordinator_count : ℕ) (bytes written : List ℕ)
      (saved : SaveAnswer) (site_memory coordinator_memory site_after coordinator_after : List ℕ)
      (loaded : LoadAnswer)
      → Reachable settings before
      → SaveSays settings (lending before.held (fronts site_count coordinator_count)) bytes
      written saved
      → saved.refusal ≡ no_refusal
      → LoadSays (take saved.length written) site_memory coordinator_memory site_after
      coordinator_after loaded
      → loaded.refusal ≡ no_refusal
      → Reachable settings
      (holding before
      (held_by loaded.sites loaded.coordinator site_after coordinator_after))

-- What the two start calls of a history left; of one that was opened again, as if they had been
-- lent the memories that it was read into.
abbrev pub held_at_start : {settings : Settings} {state : State} → Reachable settings state → Held
held_at_start
    (started site_memory site_count sites_after sites memory count after coordinator _ _ _ _) =
    (start_state sites.sites coordinator.coordinator
    (with_part site_memory 0 site_count sites_after) (with_part memory 0 count after)).held
held_at_start (stepped before after earlier step) = held_at_start earlier
held_at_start {settings}
    (reopened _ _ _ _ _ _ site_memory coordinator_memory _ _ _ earlier _ _ _ _) =
    carried_to settings (held_at_start earlier) site_memory coordinator_memory

-- ---- Deliveries

-- Only the steps of delivery count.
pub data Deliveries (settings : Settings) (start : State) : ℕ → State → Type 0 where
  no_step : Deliveries settings start 0 start
  delivered : (n : ℕ) (before after : State)
      → Deliveries settings start n before
      → Delivers settings before after
      → Deliveries settings start (suc n) after
  refused_between : (n : ℕ) (before after : State)
      → Deliveries settings start n before
      → Refuses before after
      → Deliveries settings start n after

-- The same of a history: the steps of delivery since its last arrival. Calls that accept no draw,
-- and closings, may stand between them.
abbrev pub delivered_by : {settings : Settings} {before after : State}
    → Step settings before after
    → ℕ
    → ℕ
delivered_by (arrives step) n = 0
delivered_by (delivers step) n = suc n
delivered_by (refuses step) n = n

abbrev pub delivered_in : {settings : Settings} {state : State} → Reachable settings state → ℕ
delivered_in (started _ _ _ _ _ _ _ _ _ _ _ _) = 0
delivered_in (stepped before after earlier step) = delivered_by step (delivered_in earlier)
delivered_in (reopened _ _ _ _ _ _ _ _ _ _ _ earlier _ _ _ _) = delivered_in earlier
