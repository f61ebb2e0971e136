-- The arrival at the site that it names: the state of a history after that call, if it is accepted,
-- and records and memory as they were, if it is not.
--
--   same_record    a record put back in its place
--   begin_says     what the call answers and leaves, as the code names it
-- Letter: j the site that the arrival names.
use mathlib.Core.Path.{◌≡◌, refl, sym, ap, ◌∙◌, subst}
use mathlib.Core.Bool.{false}
use mathlib.Core.List.{List, ◌++◌}
use Prim.Native.Nat.{ℕ, ◌+◌, ◌-◌, ◌*◌}
use native.Mathlib.Omega.{arith}
use lib.ListN.{length, take, drop, length-append}
use lib.Seq.{drop-drop, set-get_or}
use Rattle.model.specs.declared.Settings.{Settings}
use Rattle.model.specs.declared.Arrival.{Arrival}
use Rattle.model.specs.declared.Message.{Message}
use Rattle.model.specs.declared.SiteRecord.{SiteRecord}
use Rattle.model.specs.declared.Sites.{Sites}
use Rattle.model.specs.declared.CoordinatorRecord.{CoordinatorRecord}
use Rattle.model.specs.Refusals.{no_refusal}
use Rattle.model.specs.Draws.{is_draw}
use Rattle.model.specs.SiteMemory.{site_words}
use Rattle.tracker_queue.specs.declared.Queue.{Queue}
use Rattle.site.specs.Calls.{Observation, ObserveSays}
use Rattle.model.specs.Held.{no_record}
use Rattle.history.specs.State.{Held, State, record_at, site_start, site_part, with_part, with_record, after_site_call, record_in, held_by}
use Rattle.history.specs.Steps.{observed_out}
use Rattle.model.proofs.Touches.DrawLaws.{not_taken}
use Rattle.history.proofs.Answers.{left_choice}
use Rattle.history.proofs.Refused.{part_same}
use Rattle.single_steps.specs.Progress.{ProgressOutcome, QueueSays}
use Rattle.single_begin.specs.Arriving.{rest_from, most_calls, BeginDeliverySays}
use Rattle.single_steps.proofs.QueueLaws.{length_queued}

-- A record put back in its place.
pub same_record : (sites : Sites) (j : ℕ) (numbers : SiteRecord)
    → numbers ≡ record_in sites j
    → sites ≡ with_record sites j numbers
same_record sites j numbers numbers_are =
    rw (numbers_are, set-get_or sites.records j no_record) refl

module _ {settings : Settings} (memory : List ℕ) (arrival : Arrival) (sites : Sites)
    (coordinator : CoordinatorRecord)
    (words : ℕ) (numbers : SiteRecord)
    (words_are : words ≡ site_words settings)
    (numbers_are : numbers ≡ record_in sites arrival.site)
    (part : List ℕ) (answer : Observation)
    (says : ObserveSays settings numbers arrival
    (take (length memory - arrival.site * words) (drop (arrival.site * words) memory)) part
    answer) where
  abbrev j : ℕ
  j = arrival.site

  abbrev rest : ℕ
  rest = length memory - site_start settings j

  says_here : ObserveSays settings (record_in sites j) arrival (rest_from settings memory j) part
      answer
  says_here =
      let at-record = subst (λ (r : SiteRecord). ObserveSays settings r arrival
      (take (length memory - j * words) (drop (j * words) memory)) part answer)
      numbers_are says in
      subst (λ (w : ℕ). ObserveSays settings (record_in sites j) arrival
      (take (length memory - j * w) (drop (j * w) memory)) part answer)
      words_are at-record

  -- The memory with the part put back in its place.
  abbrev memory_after : List ℕ
  memory_after =
      take (j * words) memory
      ++ (part ++ drop (length memory - j * words) (drop (j * words) memory))

  memory_is : memory_after ≡ with_part memory (site_start settings j) rest part
  memory_is =
      ap (λ (w : ℕ). take (j * w) memory
      ++ (part ++ drop (length memory - j * w) (drop (j * w) memory))) words_are
      ∙ ap (λ (tail : List ℕ). take (site_start settings j) memory ++ (part ++ tail))
      (drop-drop rest (site_start settings j) memory)

  -- A refused call leaves the memory as it was, and so does a touch.
  leaves : (answer.refusal ≡ no_refusal → is_draw arrival ≡ false) → memory_after ≡ memory
  leaves touches =
      memory_is
      ∙ ap (with_part memory (site_start settings j) rest)
      (says_here.memory
      ∙ left_choice _ _ _
      (not_taken arrival _ (λ none. touches (says_here.refusal ∙ none))))
      ∙ part_same memory (site_start settings j) rest

  module _ (sites_then : Sites) (waiting : Queue) (carried left : ℕ)
      (sites_are : sites_then ≡ with_record sites j answer.site)
      (waits : QueueSays answer.count answer.first answer.second waiting)
      (carried_is : carried ≡ waiting.count)
      (left_is : left ≡ most_calls settings) where
    abbrev begun : ProgressOutcome
    begun = record {
      sites = sites_then;
      coordinator = coordinator;
      waiting = waiting;
      carried = carried;
      refusal = answer.refusal;
      left = left;
    }

    module _ (state : State) (coordinator_memory : List ℕ)
        (held_is : state.held ≡ held_by sites coordinator memory coordinator_memory) where
      says_of : ObserveSays settings (record_at state.held j) arrival
          (site_part settings state.held j rest) part answer
      says_of =
          subst (λ (held : Held). ObserveSays settings (record_at held j) arrival
          (site_part settings held j rest) part answer) (sym held_is) says_here

      held_then : after_site_call state.held j answer.site
          (with_part state.held.site_memory (site_start settings j) rest part)
          ≡ held_by sites_then coordinator memory_after coordinator_memory
      held_then =
          ap (λ (held : Held). after_site_call held j answer.site
          (with_part held.site_memory (site_start settings j) rest part)) held_is
          ∙ (λ i. held_by (sym sites_are i) coordinator (sym memory_is i) coordinator_memory)

      -- As many went out as the queue counts.
      carried_then : length (state.messages ++ observed_out answer)
          ≡ length state.messages + carried
      carried_then =
          omega (
            arith,
            length-append state.messages (observed_out answer),
            ap length waits.messages,
            length_queued waiting waits.few,
            carried_is,
          )

    -- What the first call of a delivery promises.
    pub begin_says : BeginDeliverySays settings arrival sites coordinator memory memory_after begun
    begin_says = record {
      refusal = says_here.refusal;
      left = leaves;
      few = waits.few;
      few_carried = omega (arith, waits.few, carried_is);
      left_is = left_is;
      begins = λ accepts state coordinator_memory held_is nothing_waits. record {
        words = rest;
        part = part;
        observed = answer;
        says = says_of state coordinator_memory held_is;
        accepts = accepts;
        stands = record {
          held_is = held_then state coordinator_memory held_is;
          waiting_are =
              ap (λ (ms : List Message). ms ++ observed_out answer) nothing_waits
              ∙ sym waits.messages;
          carried_are = carried_then state coordinator_memory held_is;
        };
      };
    }
