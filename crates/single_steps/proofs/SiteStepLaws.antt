-- A message at a site, as a step of delivery: accepted, refused, or for no site at all.
--
--   site_goes, site_stops, site_unknown
-- Letter: j the site that the message names.
use mathlib.Core.Path.{◌≡◌, refl, sym, ap, ◌∙◌, subst}
use mathlib.Core.Bool.{false}
use mathlib.Core.List.{List, ◌∷◌}
use Prim.Native.Nat.{ℕ, suc, ◌-◌, ◌*◌, ◌≤◌, ◌<◌}
use native.Mathlib.Nat.{mul-le-mul_right}
use native.Mathlib.Omega.{arith}
use lib.ListN.{length, take, drop}
use Rattle.model.specs.declared.Settings.{Settings}
use Rattle.model.specs.declared.Message.{Message}
use Rattle.model.specs.declared.SiteRecord.{SiteRecord}
use Rattle.model.specs.declared.Sites.{Sites}
use Rattle.model.specs.Refusals.{no_refusal, unknown_site}
use Rattle.model.specs.SiteMemory.{site_words, site_memory_refusal}
use Rattle.tracker_queue.specs.declared.Queue.{Queue}
use Rattle.tracker_queue.specs.Sending.{without_head}
use Rattle.model.proofs.Thresholds.RefusalLaws.{both_accepted}
use Rattle.model.proofs.Thresholds.SettingsLaws.{site_known}
use Rattle.bench_memory.specs.Promises.{SitesFit}
use Rattle.site.specs.Calls.{SiteReply}
use Rattle.site.specs.Calls as SiteCalls
use Rattle.history.specs.State.{Held, State, record_at, site_part, with_record, after_site_call, record_in, held_by}
use Rattle.history.specs.Steps.{to_site}
use Rattle.single_steps.specs.Progress.{ProgressOutcome, sent, refused_with, queued, Stands}
use Rattle.single_steps.specs.Steps.{site_refuses, HandByCallAsks, CallStepSays}
use Rattle.single_steps.proofs.QueueLaws.{queued_head, few_without_head}
use Rattle.single_steps.proofs.StepLaws.{moved_on, went, stopped}

module _ {settings : Settings} {site_memory : List ℕ} {progress : ProgressOutcome}
    (fits : SitesFit settings site_memory) (asks : HandByCallAsks false progress) where
  abbrev message : Message
  message = progress.waiting.first

  abbrev j : ℕ
  j = message.site

  abbrev behind : List Message
  behind = queued (without_head progress.waiting)

  message_waits : queued progress.waiting ≡ message ∷ behind
  message_waits = queued_head progress.waiting asks.few asks.some

  few_behind : (without_head progress.waiting).count ≤ 1
  few_behind = few_without_head progress.waiting asks.few

  -- No site has that number.
  pub site_unknown : settings.sites ≤ j
      → (memory : List ℕ)
      → CallStepSays settings site_memory memory memory progress
      (refused_with progress unknown_site)
  site_unknown none-such memory =
      stopped progress unknown_site memory asks.few (λ none. omega arith) refl
      (λ past state stands.
      site_refuses message behind (site_words settings) (stands.waiting_are ∙ message_waits)
      asks.way_is (omega arith)
      (λ none.
      let numbers = record_at state.held j in
      let part = site_part settings state.held j (site_words settings) in
      let known = site_known settings j _
      (both_accepted (site_memory_refusal settings numbers part) _ none).later_accepted in
      omega (arith, known, none-such))
      (λ known. absurd (omega (arith, known, none-such))))

  -- The site's record and its part of the memory, as the code names them.
  module _ (known : j < settings.sites) (numbers : SiteRecord) (words : ℕ)
      (numbers_are : numbers ≡ record_in progress.sites j)
      (words_are : words ≡ site_words settings)
      (answer : SiteReply)
      (says : SiteCalls.SiteReceiveSays settings numbers j message
      (take (length site_memory - j * words) (drop (j * words) site_memory)) answer) where
    abbrev rest : ℕ
    rest = length site_memory - j * site_words settings

    long : site_words settings ≤ rest
    long =
        let more : suc j * site_words settings ≤ settings.sites * site_words settings =
        mul-le-mul_right (site_words settings) known in
        omega (arith, more, fits.long_enough)

    says_here : (held : Held)
        → held.sites ≡ progress.sites
        → held.site_memory ≡ site_memory
        → SiteCalls.SiteReceiveSays settings (record_at held j) j message
        (site_part settings held j rest)
        answer
    says_here held sites_are memory_is =
        let at_words = subst (λ (w : ℕ). SiteCalls.SiteReceiveSays settings numbers j message
        (take (length site_memory - j * w) (drop (j * w) site_memory)) answer) words_are says in
        let at-record = subst (λ (r : SiteRecord). SiteCalls.SiteReceiveSays settings r j message
        (take rest (drop (j * site_words settings) site_memory)) answer) numbers_are at_words in
        let at-sites = subst
        (λ (s : Sites). SiteCalls.SiteReceiveSays settings (record_in s j) j message
        (take rest (drop (j * site_words settings) site_memory)) answer) (sym sites_are) at-record
        in
        subst (λ (m : List ℕ). SiteCalls.SiteReceiveSays settings (record_at held j) j message
        (take rest (drop (j * site_words settings) m)) answer) (sym memory_is) at-sites

    module _ {memory : List ℕ} {past : ℕ} (state : State)
        (stands : Stands past state progress site_memory memory)
      where
        says_of : SiteCalls.SiteReceiveSays settings (record_at state.held j) j message
            (site_part settings state.held j rest) answer
        says_of =
            says_here state.held (ap (λ (held : Held). held.sites) stands.held_is)
            (ap (λ (held : Held). held.site_memory) stands.held_is)

    pub site_stops : (answer.refusal ≡ no_refusal → ⊥)
        → (memory : List ℕ)
        → CallStepSays settings site_memory memory memory progress
        (refused_with progress answer.refusal)
    site_stops refused memory =
        stopped progress answer.refusal memory asks.few refused refl
        (λ past state stands.
        site_refuses message behind rest (stands.waiting_are ∙ message_waits) asks.way_is long
        (λ none. refused ((says_of state stands).refusal ∙ none))
        (λ _. sym (says_of state stands).refusal))

    pub site_goes : answer.refusal ≡ no_refusal
        → (memory : List ℕ) (sites : Sites) (queue : Queue) (then : ProgressOutcome)
        → sites ≡ with_record progress.sites j answer.site
        → queue ≡ without_head progress.waiting
        → then ≡ sent answer.count (moved_on progress sites progress.coordinator queue)
        answer.reply
        → CallStepSays settings site_memory memory memory progress then
    site_goes accepts memory sites queue then sites_are queue-is then_is =
        went asks.not_refused sites progress.coordinator queue
        (subst (λ (q : Queue). q.count ≤ 1) (sym queue-is) few_behind)
        answer.count answer.reply then then_is
        (λ past state stands. record {
          held = after_site_call state.held j answer.site state.held.site_memory;
          waiting = behind;
          held_is =
              ap (λ (held : Held). after_site_call held j answer.site held.site_memory)
              stands.held_is
              ∙ ap (λ (s : Sites). held_by s progress.coordinator site_memory memory)
              (sym sites_are);
          waiting_are = ap queued (sym queue-is);
          delivers =
              to_site message behind rest answer (stands.waiting_are ∙ message_waits)
              asks.way_is (says_of state stands) accepts;
        })
