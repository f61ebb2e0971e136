-- Messages that cross in rows.
--
--   two_out, one_out       what came out is read back as it was
--   read_whole, kept_whole   a message whose kind and deck are small is read as it is
--   known_at_deck, known_at_desk    so is one that was accepted, and it is for whom accepted it
use mathlib.Core.Path.{◌≡◌, refl, sym, ap}
use mathlib.Core.Bool.{Bool, true, false, not, ◌||◌, false≢true}
use mathlib.Core.List.{List, [], ◌∷◌, ◌++◌}
use Prim.Native.Nat.{ℕ, ◌≤◌, ◌<◌}
use native.Mathlib.Omega.{arith}
use lib.Dec.{eqb, leb}
use lib.ListN.{get_or, take}
use borrow.Author.Tests.{eqb-true, leb-false, not-false}
use Rattle.laws.proofs.Tests.{both_true}
use Rattle.model.specs.declared.Settings.{Settings}
use Rattle.model.specs.declared.Message.{Message}
use Rattle.model.specs.declared.SiteRecord.{SiteRecord}
use Rattle.model.specs.declared.CoordinatorRecord.{CoordinatorRecord}
use Rattle.model.specs.declared.Phase.{Phase}
use Rattle.model.specs.declared.Phase.TheVariants.{Idle, Collecting, Probing, Announcing}
use Rattle.model.specs.Refusals.{no_refusal, unknown_site, message_not_due}
use Rattle.model.specs.Messages.{message, to_coordinator, is_poll, is_probe, is_announcement, is_item_report, is_count_report, is_poll_answer, is_probe_answer}
use Rattle.model.specs.Site.{due_at_site}
use Rattle.model.specs.SiteMemory.{site_memory_refusal}
use Rattle.model.specs.Coordinator.{due_in}
use Rattle.model.specs.CoordinatorMemory.{coordinator_in, coordinator_memory_refusal}
use Rattle.model.proofs.Thresholds.RefusalLaws.{both_accepted, passed}
use Rattle.site.specs.Calls as SiteCalls
use Rattle.coordinator.specs.Calls as CoordinatorCalls
use Rattle.record_numbers.specs.Numbers.{message_numbers, message_from, message_read, narrowed}
use Rattle.tracker_queue.specs.Log.{messages_in}
use Rattle.library_rows.specs.Rows.{Row, Number}
use Rattle.library_history.specs.Calls.{out_of}

-- ---- What came out

pub two_out : (first second : Message) (out : Row) (count : Number) (sent : ℕ)
    → out.after ≡ message_numbers first ++ message_numbers second
    → count.after ≡ sent
    → take sent (first ∷ (second ∷ [])) ≡ out_of 2 out count
two_out first second out count sent written counted =
    λ i. take (sym counted i) (messages_in 2 (sym written i))

pub one_out : (m : Message) (out : Row) (count : Number) (sent : ℕ)
    → out.after ≡ message_numbers m
    → count.after ≡ sent
    → take sent (m ∷ []) ≡ out_of 1 out count
one_out m out count sent written counted =
    λ i. take (sym counted i) (messages_in 1 (sym written i))

-- ---- What is handed over

pub read_whole : (numbers : List ℕ)
    → (message_read numbers).kind ≤ 7
    → (message_read numbers).site ≤ 32
    → message_read numbers ≡ message_from numbers
read_whole numbers small known =
    let kind : narrowed (get_or numbers 0 0) ≡ get_or numbers 0 0 = omega (arith, small) in
    let site : narrowed (get_or numbers 1 0) ≡ get_or numbers 1 0 = omega (arith, known) in
    λ i. message (kind i) (site i) (get_or numbers 2 0) (get_or numbers 3 0)

-- The same by what stands in the row.
pub kept_whole : (numbers : List ℕ)
    → (message_from numbers).kind ≤ 7
    → (message_from numbers).site ≤ 32
    → message_read numbers ≡ message_from numbers
kept_whole numbers small known =
    read_whole numbers (omega (arith, small)) (omega (arith, known))

-- A message that was accepted, and the way that it goes.
pub record Known (settings : Settings) (m : Message) (way : Bool) : Type 0 where
  pub small : m.kind ≤ 7
  pub site_known : m.site < settings.sites
  pub way_is : to_coordinator m ≡ way

-- Whom a kind goes to.
abbrev kind_way : ℕ → Bool
kind_way kind = eqb kind 1 || eqb kind 2 || eqb kind 4 || eqb kind 6

module _ (settings : Settings) (m : Message) (site_known : m.site < settings.sites) where
  of_kind : (kind : ℕ) → kind ≤ 7 → eqb m.kind kind ≡ true → Known settings m (kind_way kind)
  of_kind kind small same = record {
    small = omega (arith, small, eqb-true m.kind kind same);
    site_known = site_known;
    way_is = ap kind_way (eqb-true m.kind kind same);
  }

  -- Of two tests that may hold.
  of_either : {way : Bool} (first second : Bool)
      → (first || second) ≡ true
      → (first ≡ true → Known settings m way)
      → (second ≡ true → Known settings m way)
      → Known settings m way
  of_either true second holds by_first by_second = by_first refl
  of_either false second holds by_first by_second = by_second holds

  due_at_desk : (phase : Phase) → due_in phase m ≡ true → Known settings m true
  due_at_desk Idle due =
      of_either (is_item_report m) (is_count_report m) due (of_kind 1 (omega arith))
      (of_kind 2 (omega arith))
  due_at_desk (Collecting site) due =
      of_kind 4 (omega arith) (both_true (is_poll_answer m) _ due).first_true
  due_at_desk (Probing site low high sum) due =
      of_kind 6 (omega arith) (both_true (is_probe_answer m) _ due).first_true
  due_at_desk (Announcing site) due = absurd (false≢true due)

  due_at_deck : (which : ℕ) → due_at_site which m ≡ true → Known settings m false
  due_at_deck which due =
      let kinds = (both_true (is_poll m || is_probe m || is_announcement m) _ due).first_true in
      of_either (is_poll m || is_probe m) (is_announcement m) kinds
      (λ either. of_either (is_poll m) (is_probe m) either (of_kind 3 (omega arith))
      (of_kind 5 (omega arith)))
      (of_kind 7 (omega arith))

-- ---- Accepted by a call

pub known_at_desk : (settings : Settings) (numbers : CoordinatorRecord) (m : Message)
    (memory : List ℕ)
    → CoordinatorCalls.receive_refusal settings numbers m memory ≡ no_refusal
    → Known settings m true
known_at_desk settings numbers m memory none =
    let c = coordinator_in settings numbers memory in
    let rows = both_accepted (coordinator_memory_refusal settings numbers memory) _ none in
    let site_row = passed (leb settings.sites m.site) unknown_site _ (omega arith)
    rows.later_accepted in
    let due-row = passed (not (due_in c.phase m)) message_not_due _ (omega arith)
    site_row.later_accepted in
    due_at_desk settings m (leb-false settings.sites m.site site_row.test_failed)
    c.phase (not-false (due_in c.phase m) due-row.test_failed)

pub known_at_deck : (settings : Settings) (numbers : SiteRecord) (which : ℕ) (m : Message)
    (memory : List ℕ)
    → SiteCalls.receive_refusal settings numbers which m memory ≡ no_refusal
    → Known settings m false
known_at_deck settings numbers which m memory none =
    let rows = both_accepted (site_memory_refusal settings numbers memory) _ none in
    let own_row = passed (leb settings.sites which) unknown_site _ (omega arith)
    rows.later_accepted in
    let site_row = passed (leb settings.sites m.site) unknown_site _ (omega arith)
    own_row.later_accepted in
    let due-row = passed (not (due_at_site which m)) message_not_due _ (omega arith)
    site_row.later_accepted in
    due_at_deck settings m (leb-false settings.sites m.site site_row.test_failed) which
    (not-false (due_at_site which m) due-row.test_failed)
