-- What an accepted message is worth, kind by kind (document 01, "Refused": 5, 9, 6, 7, 10).
--
--   MessageAccepted settings c m    the rows of the refusal chain, each passed
--   message_accepted                an accepted message has them
--   count_report_of_idle, kind_of_collecting, kind_of_probing    the kind that the phase leaves
--   item_known_of_report, item_amount_of_report, count_amount_of_report, value_of_report,
--   value_known_of_report, amount_of_poll_answer, amount_of_probe_answer    what it says of a and b
use mathlib.Core.Path.{◌≡◌, refl}
use mathlib.Core.Bool.{Bool, true, false, ◌&&◌, ◌||◌, not}
use Prim.Native.Nat.{ℕ, ◌≤◌, ◌<◌}
use native.Mathlib.Omega.{arith}
use lib.Dec.{eqb, ltb, leb, lit<}
use borrow.Author.Tests.{leb-false, ltb-false, eqb-true, ne_eqb, not-false}
use Rattle.laws.proofs.Tests.{both_true, neither_of_or}
use Rattle.model.specs.declared.Settings.{Settings}
use Rattle.model.specs.declared.Message.{Message}
use Rattle.model.specs.declared.Phase.TheVariants.{Idle, Collecting, Probing}
use Rattle.model.specs.Refusals.{no_refusal, unknown_site, message_not_due, unknown_item, value_too_large, amount_not_due}
use Rattle.model.specs.Choice.{is_zero}
use Rattle.model.specs.Limits.{top_value, site_limit}
use Rattle.model.specs.Messages.{is_item_report, is_count_report, is_poll_answer, is_probe_answer}
use Rattle.model.specs.Coordinator.{Coordinator, due_in, asked_value, names_large_value, wrong_at_coordinator, coordinator_due_refusal, coordinator_refusal}
use Rattle.model.proofs.Thresholds.RefusalLaws.{passed}

-- ---- The rows of the chain

-- No row of "amount not due" applies.
pub record NothingWrong (c : Coordinator) (m : Message) : Type 0 where
  pub item_amount : (is_item_report m && not (eqb m.b c.threshold)) ≡ false
  pub count_amount : (is_count_report m && not (eqb m.a c.threshold)) ≡ false
  pub count_zero : (is_count_report m && not (eqb c.threshold 1) && not (is_zero m.b)) ≡ false
  pub poll_amount : (is_poll_answer m && (leb c.threshold m.a || not (is_zero m.b))) ≡ false
  pub probe_amount :
      (is_probe_answer m && (not (eqb m.a (asked_value c.phase)) || ltb site_limit m.b)) ≡
      false

nothing_wrong : (c : Coordinator) (m : Message) → wrong_at_coordinator c m ≡ false → NothingWrong c
    m
nothing_wrong c m fails =
    let four = neither_of_or _ _ fails in
    let three = neither_of_or _ _ four.first_false in
    let two = neither_of_or _ _ three.first_false in
    let one = neither_of_or _ _ two.first_false in
    record {
      item_amount = one.first_false;
      count_amount = one.second_false;
      count_zero = two.second_false;
      poll_amount = three.second_false;
      probe_amount = four.second_false;
    }

pub record MessageAccepted (settings : Settings) (c : Coordinator) (m : Message) : Type 0 where
  pub site_known : m.site < settings.sites
  pub due : due_in c.phase m ≡ true
  pub item_known : (is_item_report m && leb settings.universe m.a) ≡ false
  pub value_small : names_large_value c m ≡ false
  pub amount_due : NothingWrong c m

pub message_accepted : (settings : Settings) (c : Coordinator) (m : Message)
    → coordinator_refusal settings c m ≡ no_refusal
    → MessageAccepted settings c m
message_accepted settings c m none =
    let site_row = passed (leb settings.sites m.site) unknown_site
    (coordinator_due_refusal settings c m) (lit< tt) none in
    let due-row = passed _ message_not_due _ (lit< tt) site_row.later_accepted in
    let item-row = passed _ unknown_item _ (lit< tt) due-row.later_accepted in
    let Value-row = passed _ value_too_large _ (lit< tt) item-row.later_accepted in
    let amount-row = passed _ amount_not_due _ (lit< tt) Value-row.later_accepted in
    record {
      site_known = leb-false _ _ site_row.test_failed;
      due = not-false _ due-row.test_failed;
      item_known = item-row.test_failed;
      value_small = Value-row.test_failed;
      amount_due = nothing_wrong c m amount-row.test_failed;
    }

-- ---- By kind and phase

module _ (settings : Settings) (c : Coordinator) (m : Message)
    (taken : MessageAccepted settings c m)
  where
    -- At an idle coordinator a message that is no kind 1 is a kind 2.
    pub count_report_of_idle : c.phase ≡ Idle → (m.kind ≡ 1 → ⊥) → m.kind ≡ 2
    count_report_of_idle idle other =
        eqb-true m.kind 2 (rw (idle, ne_eqb m.kind 1 other) at taken.due)

    pub kind_of_collecting : (site : ℕ) → c.phase ≡ Collecting site → m.kind ≡ 4
    kind_of_collecting site collecting =
        eqb-true m.kind 4 (both_true _ _ (rw collecting at taken.due)).first_true

    pub kind_of_probing : (site low high total : ℕ)
        → c.phase ≡ Probing site low high total
        → m.kind ≡ 6
    kind_of_probing site low high total probing =
        eqb-true m.kind 6 (both_true _ _ (rw probing at taken.due)).first_true

    -- A kind 1 names a known item and reports the threshold.
    pub item_known_of_report : m.kind ≡ 1 → m.a < settings.universe
    item_known_of_report is = leb-false _ _ (rw is at taken.item_known)

    pub item_amount_of_report : m.kind ≡ 1 → m.b ≡ c.threshold
    item_amount_of_report is =
        eqb-true _ _ (not-false _ (rw is at taken.amount_due.item_amount))

    -- A kind 2 reports the threshold, and while this is 1 names a value.
    pub count_amount_of_report : m.kind ≡ 2 → m.a ≡ c.threshold
    count_amount_of_report is =
        eqb-true _ _ (not-false _ (rw is at taken.amount_due.count_amount))

    pub value_of_report : m.kind ≡ 2 → c.threshold ≡ 1 → m.b ≤ top_value
    value_of_report is one = ltb-false _ _ (rw (is, one) at taken.value_small)

    -- Later b must be 0, so that it is never above the last value.
    pub value_known_of_report : m.kind ≡ 2 → m.b ≤ top_value
    value_known_of_report is = by_threshold (eqb c.threshold 1) refl
      where
        by_threshold : (one : Bool) → eqb c.threshold 1 ≡ one → m.b ≤ top_value
        by_threshold true test = value_of_report is (eqb-true _ _ test)
        by_threshold false test =
            let none : m.b ≡ 0 =
            eqb-true _ _ (not-false _ (rw (is, test) at taken.amount_due.count_zero)) in
            omega arith

    -- A kind 4 reports less than the threshold.
    pub amount_of_poll_answer : m.kind ≡ 4 → m.a < c.threshold
    amount_of_poll_answer is =
        leb-false _ _ (neither_of_or _ _ (rw is at taken.amount_due.poll_amount)).first_false

    -- A kind 6 reports at most as many arrivals as a site takes.
    pub amount_of_probe_answer : m.kind ≡ 6 → m.b ≤ site_limit
    amount_of_probe_answer is =
        let tests = neither_of_or (not (eqb m.a (asked_value c.phase))) (ltb site_limit m.b)
        (rw is at taken.amount_due.probe_amount) in
        ltb-false _ _ tests.second_false
