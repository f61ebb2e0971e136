-- What a network counts of the messages of its logs, from a start (request N5).
--
--   few_of_log          no count is above the messages, and so none above the limit
--   length_of_log       there are as many counts as at the start
--   naming_of_log       a count is the number of messages that name its site
--   counted_behind      messages that name sites below k leave all counts from k on
--   past_of_log         these are 0
--   total_of_log        the first k counts sum up to the number of messages
use mathlib.Core.Path.{◌≡◌, refl, sym, ap, ◌∙◌}
use mathlib.Core.List.{List}
use Prim.Native.Nat.{ℕ, ◌+◌, ◌-◌, ◌≤◌, ◌<◌}
use native.Mathlib.Omega.{arith}
use lib.ListN.{length, take, drop, length-replicate}
use lib.Seq.{drop-set-lt, get_or-drop}
use Rattle.model.specs.declared.Message.{Message}
use Rattle.model.specs.Limits.{most_sites, message_limit}
use Rattle.model.specs.Site.{one_more_at}
use Rattle.model.specs.SiteMemory.{sum}
use Rattle.model.specs.MessageCounts.{none_counted, count_at, counted_up, naming}
use Rattle.model.proofs.MessageCount.Counts.{FewCounted}
use Rattle.model.proofs.MessageCount.CountLaws.{NamesBelow, names_none, names_more, length_counted_up, count_le, count_naming, total_counted, none_counted_lem, none_in_all}

-- Messages that name sites below k leave all counts from k on.
pub counted_behind : {k : ℕ} (counts : List ℕ) {messages : List Message}
    → NamesBelow k messages
    → drop k (counted_up counts messages) ≡ drop k counts
counted_behind counts names_none = refl
counted_behind {k} counts (names_more m messages below others) =
    counted_behind (one_more_at counts m.site) others
    ∙ drop-set-lt k counts m.site _ below

-- ---- From a start

all_counts : length none_counted ≡ most_sites
all_counts = length-replicate {A = ℕ} most_sites 0

module _ (log : List Message) where
  pub few_of_log : (k : ℕ) → length log ≤ message_limit → FewCounted k (counted_up none_counted log)
  few_of_log k few = record {
    each_within = λ j below.
        omega (arith, few, count_le none_counted log j, none_counted_lem most_sites j);
  }

  pub length_of_log : length (counted_up none_counted log) ≡ most_sites
  length_of_log = length_counted_up none_counted log ∙ all_counts

  pub naming_of_log : (j : ℕ)
      → j < most_sites
      → count_at (counted_up none_counted log) j ≡ naming j log
  naming_of_log j inside =
      let known : j < length none_counted = omega (arith, inside, all_counts) in
      omega (arith, count_naming none_counted log j known, none_counted_lem most_sites j)

  module _ (k : ℕ) (named : NamesBelow k log) where
    pub past_of_log : (j : ℕ) → k ≤ j → count_at (counted_up none_counted log) j ≡ 0
    past_of_log j past =
        let place : k + (j - k) ≡ j = omega (arith, past) in
        let behind : (all : List ℕ) → count_at (drop k all) (j - k) ≡ count_at all j =
        λ all. get_or-drop k all (j - k) 0 ∙ ap (count_at all) place in
        sym (behind (counted_up none_counted log))
        ∙ ap (λ (tail : List ℕ). count_at tail (j - k)) (counted_behind none_counted named)
        ∙ behind none_counted
        ∙ none_counted_lem most_sites j

    pub total_of_log : k ≤ most_sites → sum (take k (counted_up none_counted log)) ≡ length log
    total_of_log few =
        let known : k ≤ length none_counted = omega (arith, few, all_counts) in
        omega (arith, total_counted none_counted named known, none_in_all k most_sites)
