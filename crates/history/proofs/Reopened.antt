-- A bench saved and read goes on exactly as one never closed (request N3): of every history, the
-- records are the same, and so are the network's own numbers of both memories; what lies behind
-- them is what lay in the memories that it was read into.
--
--   file_back                what is read is the file that was saved
--   ReadBack, read-back      of every bench that saving accepts, arisen or not
--   back, held_again, lasting_reopened   of every state of a history
use mathlib.Core.Path.{◌≡◌, sym, ap, ◌∙◌, subst}
use mathlib.Core.List.{List, ◌++◌}
use Prim.Native.Nat.{ℕ, ◌+◌, ◌-◌, ◌≤◌}
use native.Mathlib.Omega.{arith}
use lib.ListN.{length, take, drop, replicate, length-replicate, replicate-append-replicate, take-append-drop}
use lib.Seq.{length-take-le, take-take, take_at, drop_at}
use Rattle.laws.specs.Writing.{written_at}
use Rattle.model.specs.declared.Settings.{Settings}
use Rattle.model.specs.declared.SiteRecord.{SiteRecord}
use Rattle.model.specs.declared.Sites.{Sites}
use Rattle.model.specs.Refusals.{no_refusal}
use Rattle.model.specs.Limits.{most_sites}
use Rattle.model.specs.Settings.{settings_refusal}
use Rattle.model.specs.Site.{fresh_site}
use Rattle.model.specs.SiteMemory.{site_record, overwrite}
use Rattle.model.specs.CoordinatorMemory.{coordinator_words}
use Rattle.model.specs.NetworkMemory.{sites_words}
use Rattle.model.proofs.Thresholds.SettingsLaws.{settled}
use Rattle.snapshot_file.specs.Answers.{LoadAnswer, SaveAnswer}
use Rattle.snapshot_file.specs.Layout.{file_length}
use Rattle.snapshot_file.specs.File.{file_of, save_refusal}
use Rattle.snapshot_file.specs.Reading.{settings_in, held_in}
use Rattle.snapshot_file.specs.Calls.{SaveSays, LoadSays, bench_in}
use Rattle.snapshot_file.specs.Claims.{OfMachine, closed}
use Rattle.snapshot_file.proofs.FitLaws.{Passed, passed_of}
use Rattle.snapshot_file.proofs.Theorem.{file_claims}
use Rattle.history.specs.State.{Held, held_by, State, fronts, lending, front_in, carried_to, holding}
use Rattle.history.proofs.Answers.{accepted_choice, words_enough}
use Rattle.history.proofs.Lasting.{Lasting, lasting_carried}
use Rattle.history.proofs.MachineNumbers.{of_machine}

-- ---- Every bench that saving accepts

-- What was read, by what was saved.
pub record ReadBack
    (settings : Settings)
    (held : Held)
    (site_before coordinator_before site_after coordinator_after : List ℕ)
    (loaded : LoadAnswer) : Type 0 where
  pub settings_are : loaded.settings ≡ settings
  pub sites_are : loaded.sites ≡ (closed settings held).sites
  pub coordinator_is : loaded.coordinator ≡ held.coordinator
  pub site_memory : site_after ≡ front_in (sites_words settings) held.site_memory site_before
  pub coordinator_memory : coordinator_after
      ≡ front_in (coordinator_words settings) held.coordinator_memory coordinator_before

-- Numbers written over a memory, by how many they are.
overwrite_is : (words : ℕ) (numbers memory : List ℕ)
    → words ≤ length numbers
    → overwrite (take words numbers) memory ≡ front_in words numbers memory
overwrite_is words numbers memory long =
    ap (λ (n : ℕ). take words numbers ++ drop n memory) (length-take-le words numbers long)

module _ (settings : Settings) (held : Held) (bytes written : List ℕ) (saved : SaveAnswer)
    (save_says : SaveSays settings held bytes written saved)
    (save_accepted : saved.refusal ≡ no_refusal) where
  none : save_refusal settings held (length bytes) ≡ no_refusal
  none = sym save_says.refusal ∙ save_accepted

  -- What an accepted saving is worth.
  pub passed_save : Passed settings held (length bytes)
  passed_save = passed_of settings held (length bytes) none

  module _ (machine : OfMachine settings held) where
    abbrev file : List ℕ
    file = file_of settings held

    -- The bytes that saving says it wrote.
    pub file_back : take saved.length written ≡ file
    file_back =
        let long : saved.length ≡ file_length settings =
        save_says.saved_length ∙ accepted_choice _ _ _ save_accepted in
        let out : written ≡ written_at 0 file bytes =
        save_says.bytes ∙ accepted_choice _ _ _ save_accepted in
        (λ i. take (long i) (out i))
        ∙ take_at file (drop (0 + length file) bytes) (file_length settings)
        (file_claims.saved_length settings held (length bytes) none machine)

    settings_back : settings_in file ≡ settings
    settings_back = file_claims.saved_settings settings held (length bytes) none machine

    bench_back : bench_in file ≡ closed settings held
    bench_back =
        ap (λ (theirs : Settings). held_in theirs file) settings_back
        ∙ file_claims.saved_bench settings held (length bytes) none machine

    pub read_back : (site_memory coordinator_memory site_after coordinator_after : List ℕ)
        (loaded : LoadAnswer)
        → LoadSays (take saved.length written) site_memory coordinator_memory site_after
        coordinator_after loaded
        → loaded.refusal ≡ no_refusal
        → ReadBack settings held site_memory coordinator_memory site_after coordinator_after loaded
    read_back site_memory coordinator_memory site_after coordinator_after loaded load_says
        accepted =
        let says : LoadSays file site_memory coordinator_memory site_after coordinator_after loaded
        =
        subst (λ (theirs : List ℕ).
        LoadSays theirs site_memory coordinator_memory site_after coordinator_after loaded)
        file_back load_says in
        record {
          settings_are =
              says.settings ∙ accepted_choice _ _ _ accepted ∙ settings_back;
          sites_are =
              says.sites
              ∙ accepted_choice _ _ _ accepted
              ∙ ap (λ (bench : Held). bench.sites) bench_back;
          coordinator_is =
              says.coordinator
              ∙ accepted_choice _ _ _ accepted
              ∙ ap (λ (bench : Held). bench.coordinator) bench_back;
          site_memory =
              says.site_memory
              ∙ accepted_choice _ _ _ accepted
              ∙ ap (λ (bench : Held). overwrite bench.site_memory site_memory) bench_back
              ∙ overwrite_is (sites_words settings) held.site_memory site_memory
              passed_save.sites_long;
          coordinator_memory =
              says.coordinator_memory
              ∙ accepted_choice _ _ _ accepted
              ∙ ap (λ (bench : Held). overwrite bench.coordinator_memory coordinator_memory)
              bench_back
              ∙ overwrite_is (coordinator_words settings) held.coordinator_memory
              coordinator_memory passed_save.coordinator_long;
        }

-- ---- Every state of a history

-- A front of a front is a front.
front_again : (words n : ℕ) (memory other : List ℕ)
    → words ≤ length (take n memory)
    → front_in words (take n memory) other ≡ front_in words memory other
front_again words n memory other long =
    ap (λ (numbers : List ℕ). numbers ++ drop words other)
    (take-take words n memory (words_enough words n memory long))

module _ {settings : Settings} (passes : settings_refusal settings ≡ no_refusal)
    {n : ℕ} (state : State) (start : Held) (now : Lasting settings start n state) where
  -- What a start left alike for all 32 sites, from site k on.
  alike_behind : {A : Type 0} (x : A)
      → drop settings.sites (replicate most_sites x)
      ≡ replicate (most_sites - settings.sites) x
  alike_behind x =
      let k = settings.sites in
      let all : k + (most_sites - k) ≡ most_sites =
      omega (arith, (settled settings passes).sites.at_most) in
      ap (λ (m : ℕ). drop k (replicate m x)) (sym all)
      ∙ ap (drop k) (sym (replicate-append-replicate k (most_sites - k) x))
      ∙ drop_at (replicate k x) (replicate (most_sites - k) x) k (length-replicate k x)

  -- Records and counts k to 31 are as the start call left them.
  records_fresh : drop settings.sites state.held.sites.records
      ≡ replicate (most_sites - settings.sites) (site_record fresh_site)
  records_fresh =
      now.from.tails.records
      ∙ ap (λ (sites : Sites). drop settings.sites sites.records) now.fresh.sites
      ∙ alike_behind (site_record fresh_site)

  counts_fresh : drop settings.sites state.held.sites.messages
      ≡ replicate (most_sites - settings.sites) 0
  counts_fresh =
      now.from.tails.counts
      ∙ ap (λ (sites : Sites). drop settings.sites sites.messages) now.fresh.sites
      ∙ alike_behind {A = ℕ} 0

  -- So closing changes no record and no count.
  sites_closed : (site_count coordinator_count : ℕ)
      → (closed settings (lending state.held (fronts site_count coordinator_count))).sites
      ≡ state.held.sites
  sites_closed site_count coordinator_count =
      let k = settings.sites in
      let records = state.held.sites.records in
      let counts = state.held.sites.messages in
      let same : take k records ++ replicate (most_sites - k) (site_record fresh_site) ≡ records =
      ap (λ (tail : List SiteRecord). take k records ++ tail) (sym records_fresh)
      ∙ take-append-drop k records in
      let same_counts : take k counts ++ replicate (most_sites - k) 0 ≡ counts =
      ap (λ (tail : List ℕ). take k counts ++ tail) (sym counts_fresh)
      ∙ take-append-drop k counts in
      λ i. record { records = same i; messages = same_counts i }

  -- The law: saved from fronts of both memories, and read into others.
  module _ (site_count coordinator_count : ℕ) (bytes written : List ℕ) (saved : SaveAnswer)
      (site_memory coordinator_memory site_after coordinator_after : List ℕ) (loaded : LoadAnswer)
      (save_says : SaveSays settings
      (lending state.held (fronts site_count coordinator_count)) bytes written saved)
      (save_accepted : saved.refusal ≡ no_refusal)
      (load_says : LoadSays (take saved.length written) site_memory coordinator_memory site_after
      coordinator_after loaded)
      (load-accepted : loaded.refusal ≡ no_refusal) where
    abbrev lent : Held
    lent = lending state.held (fronts site_count coordinator_count)

    long : Passed settings lent (length bytes)
    long = passed_save settings lent bytes written saved save_says save_accepted

    pub back : ReadBack settings lent site_memory coordinator_memory site_after coordinator_after
        loaded
    back =
        read_back settings lent bytes written saved save_says save_accepted
        (of_machine passes state start now site_count coordinator_count
        long.sites_long)
        site_memory coordinator_memory site_after coordinator_after loaded load_says load-accepted

    pub held_again : held_by loaded.sites loaded.coordinator site_after coordinator_after
        ≡ carried_to settings state.held site_memory coordinator_memory
    held_again =
        let sites = back.sites_are ∙ sites_closed site_count coordinator_count in
        let memory = back.site_memory
        ∙ front_again (sites_words settings) site_count state.held.site_memory site_memory
        long.sites_long in
        let coordinators = back.coordinator_memory
        ∙ front_again (coordinator_words settings) coordinator_count
        state.held.coordinator_memory coordinator_memory long.coordinator_long in
        λ i. held_by (sites i) (back.coordinator_is i) (memory i) (coordinators i)

    -- So all that holds of a state holds of the one that is opened again.
    pub lasting_reopened : Lasting settings
        (carried_to settings start site_memory coordinator_memory) n
        (holding state
        (held_by loaded.sites loaded.coordinator site_after coordinator_after))
    lasting_reopened =
        subst
        (λ (held : Held).
        Lasting settings (carried_to settings start site_memory coordinator_memory) n
        (holding state held))
        (sym held_again) (lasting_carried passes state start now site_memory coordinator_memory)
