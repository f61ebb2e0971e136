-- A message at a site: what it is worth when it is not refused, and the record and memory that hold
-- the site after it.
--
--   Due, message_due       what a message that is not refused is worth
--   record_with            the record of a site that was read, with other numbers
--   site_in_received       a message leaves counters and values as they were
use Prim.Native.Nat.{ℕ, ◌<◌, ◌≤◌}
use mathlib.Core.Path.{◌≡◌, refl, sym, ap, subst}
use mathlib.Core.List.{List}
use mathlib.Core.Bool.{Bool, true, false, ◌&&◌, not}
use native.Mathlib.Omega.{arith}
use lib.Dec.{leb, ltb}
use lib.ListN.{length}
use borrow.Author.Tests.{leb-false, ltb-false, not-false}
use Rattle.model.specs.declared.Settings.{Settings}
use Rattle.model.specs.declared.SiteRecord.{SiteRecord}
use Rattle.model.specs.declared.Message.{Message}
use Rattle.model.specs.Refusals.{no_refusal}
use Rattle.model.specs.Limits.{top_value}
use Rattle.model.specs.Messages.{is_poll, is_probe}
use Rattle.model.specs.Site.{Site, due_at_site, wrong_at_site, site_message_refusal, site_receives}
use Rattle.model.specs.SiteMemory.{site_in, site_record, counters_in}
use Rattle.model.proofs.Thresholds.RefusalLaws.{passed}
use Rattle.model.proofs.Soundness.ConsistentSites.{length_counters_in}

-- ---- A message that is not refused

pub record Due (settings : Settings) (site : Site) (which : ℕ) (m : Message) : Type 0 where
  pub site_known : m.site < settings.sites
  pub due : due_at_site which m ≡ true
  pub value_known : is_probe m ≡ true → m.a ≤ top_value
  pub not_wrong : wrong_at_site site m ≡ false

pub message_due : (settings : Settings) (site : Site) (which : ℕ) (m : Message)
    → site_message_refusal settings site which m ≡ no_refusal
    → Due settings site which m
message_due settings site which m none =
    let site_row = passed (leb settings.sites m.site) 5 _ (omega arith) none in
    let due-row = passed (not (due_at_site which m)) 9 _ (omega arith) site_row.later_accepted in
    let Value-row = passed (is_probe m && ltb top_value m.a) 7 _ (omega arith)
    due-row.later_accepted in
    let amount-row = passed (wrong_at_site site m) 10 _ (omega arith) Value-row.later_accepted in
    record {
      site_known = leb-false _ _ site_row.test_failed;
      due = not-false (due_at_site which m) due-row.test_failed;
      value_known = λ probe.
          ltb-false top_value m.a
          (subst (λ (test : Bool). (test && ltb top_value m.a) ≡ false) probe
          Value-row.test_failed);
      not_wrong = amount-row.test_failed;
    }

-- ---- Record and memory after a message

-- A record with other pending and threshold, and so many counters in use.
abbrev with_numbers : SiteRecord → ℕ → ℕ → ℕ → SiteRecord
with_numbers numbers pending threshold used = record {
  arrivals = numbers.arrivals;
  pending = pending;
  threshold = threshold;
  used = used;
  dropped = numbers.dropped;
}

-- As many counters are read as are in use.
pub record_with : (numbers : SiteRecord) (memory : List ℕ) (pending threshold : ℕ)
    → with_numbers numbers pending threshold numbers.used
    ≡ with_numbers numbers pending threshold (length (counters_in numbers.used memory))
record_with numbers memory pending threshold =
    ap (with_numbers numbers pending threshold) (sym (length_counters_in numbers.used memory))

-- A message changes neither counters nor values, so the site's record and the memory hold it.
pub site_in_received : (settings : Settings) (numbers : SiteRecord) (m : Message) (memory : List ℕ)
    → site_in settings (site_record (site_receives (site_in settings numbers memory) m).site) memory
    ≡ (site_receives (site_in settings numbers memory) m).site
site_in_received settings numbers m memory = by_kind (is_poll m) refl (is_probe m) refl
  where
    in_use : ℕ
    in_use = length (counters_in numbers.used memory)

    read_again : (pending threshold : ℕ)
        → site_in settings (with_numbers numbers pending threshold in_use) memory
        ≡ site_in settings (with_numbers numbers pending threshold numbers.used) memory
    read_again pending threshold =
        ap (λ (then : SiteRecord). site_in settings then memory)
        (sym (record_with numbers memory pending threshold))

    by_kind : (poll : Bool) → is_poll m ≡ poll → (probe : Bool) → is_probe m ≡ probe
        → site_in settings
        (site_record (site_receives (site_in settings numbers memory) m).site)
        memory
        ≡ (site_receives (site_in settings numbers memory) m).site
    by_kind true poll-is probe probe-is = rw poll-is (read_again 0 numbers.threshold)
    by_kind false poll-is true probe-is =
        rw (poll-is, probe-is) (read_again numbers.pending numbers.threshold)
    by_kind false poll-is false probe-is =
        rw (poll-is, probe-is) (read_again numbers.pending m.a)
