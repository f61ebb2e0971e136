-- What the tests of a whole network's memory are worth, test by test.
--
--   counts_refused .. sites_refused   the rows of the test
--   fits_of_long                      memory that is not too short
use mathlib.Core.Path.{◌≡◌, sym}
use mathlib.Core.Bool.{Bool, true, false, ◌&&◌}
use mathlib.Core.List.{List}
use Prim.Native.Nat.{ℕ}
use lib.Dec.{ltb}
use lib.ListN.{length}
use borrow.Author.Tests.{ltb-false}
use Rattle.laws.proofs.Tests.{and_true, and_false, neither_of_or}
use Rattle.model.specs.declared.Settings.{Settings}
use Rattle.model.specs.declared.Sites.{Sites}
use Rattle.model.specs.declared.CoordinatorRecord.{CoordinatorRecord}
use Rattle.model.specs.Refusals.{no_refusal}
use Rattle.model.specs.Settings.{settings_refusal}
use Rattle.model.specs.CoordinatorMemory.{coordinator_in, coordinator_consistent}
use Rattle.model.specs.MessageCounts.{counts_within}
use Rattle.model.specs.NetworkMemory.{sites_words, sites_consistent, bench_consistent, network_too_short}
use Rattle.bench_memory.specs.Promises.{NetworkFits}

-- The three tests, in the order of the definition, with the test that decides.
module _ (settings : Settings) (sites : Sites) (coordinator : CoordinatorRecord)
    (site_memory coordinator_memory : List ℕ) where
  abbrev sites_test : Bool
  sites_test = sites_consistent settings.sites settings sites.records site_memory

  abbrev coordinator_test : Bool
  coordinator_test =
      coordinator_consistent settings (coordinator_in settings coordinator coordinator_memory)

  abbrev whole_test : Bool
  whole_test = bench_consistent settings sites coordinator site_memory coordinator_memory

  abbrev counts_test : Bool
  counts_test = counts_within settings.sites sites.messages

  pub counts_refused : counts_test ≡ false → false ≡ whole_test
  counts_refused fails = rw fails (sym (and_false (sites_test && coordinator_test)))

  pub coordinator_decides : sites_test ≡ true → counts_test ≡ true → coordinator_test ≡ whole_test
  coordinator_decides sites-hold counts-hold =
      rw (sites-hold, counts-hold) (sym (and_true coordinator_test))

  pub sites_refused : sites_test ≡ false → false ≡ whole_test
  sites_refused fails = rw fails

-- ---- What fits

module _ (settings : Settings) (site_memory coordinator_memory : List ℕ) where
  -- What passes the test 4 fits.
  pub fits_of_long : settings_refusal settings ≡ no_refusal
      → network_too_short settings site_memory coordinator_memory ≡ false
      → NetworkFits settings site_memory coordinator_memory
  fits_of_long none long =
      let neither = neither_of_or (ltb (length site_memory) (sites_words settings)) _ long in
      record {
        sites_fit = record {
          settings_accepted = none;
          long_enough = ltb-false _ _ neither.first_false;
        };
        coordinator_long = ltb-false _ _ neither.second_false;
      }
