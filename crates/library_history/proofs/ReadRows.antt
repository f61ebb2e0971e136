-- `tracker_load` at other rows and memories: what it leaves there.
--
--   loaded_accepted, decks_read, desk_read, settings_read     where it is accepted, the rows
--   read_decks_long, read_desk_long    they are then as long as C has them
--   unread_decks, unread_desk, reading_left    where it is refused, all is as it was
--   whole_long, written_whole          lent a front of a memory that is long enough
use Rattle.std.specs.Prelude.{if◌then◌else◌}
use mathlib.Core.Path.{◌≡◌, sym, ap, ◌∙◌}
use mathlib.Core.List.{List, []}
use Prim.Native.Nat.{ℕ, ◌≤◌}
use native.Mathlib.Omega.{arith}
use lib.ListN.{length, take, length-take}
use Rattle.model.specs.Refusals.{no_refusal}
use Rattle.model.specs.Choice.{is_zero}
use Rattle.model.specs.SiteMemory.{overwrite}
use Rattle.record_numbers.specs.Numbers.{sites_width, settings_from, sites_from, sites_numbers, coordinator_read, coordinator_numbers}
use Rattle.record_numbers.proofs.Inverse.{settings_back}
use Rattle.history.specs.State.{held_by}
use Rattle.history.proofs.Answers.{accepted_choice, refused_choice}
use Rattle.history.proofs.Refused.{part_same}
use Rattle.history.proofs.CoordinatorFronts.{overwrite_front}
use Rattle.library_history.specs.Bench.{Bench, held_in, Front, with_front}
use Rattle.library_history.specs.Calls.{LoadCall, after_load}
use Rattle.library_history.specs.Claims.{desk_width}
use Rattle.library_history.proofs.RecordRows.{length_sites_numbers, length_coordinator_numbers}

-- ---- A reading that is accepted

module _ {bench : Bench} (load : LoadCall bench) (loads : load.answer ≡ no_refusal) where
  pub loaded_accepted : load.says.loaded.refusal ≡ no_refusal
  loaded_accepted = sym load.says.refusal ∙ loads

  pub decks_read : load.decks ≡ sites_numbers load.says.loaded.sites
  decks_read = load.says.rows.decks_are ∙ accepted_choice _ _ _ loaded_accepted

  pub desk_read : load.desk ≡ coordinator_numbers load.says.loaded.coordinator
  desk_read = load.says.rows.desk_is ∙ accepted_choice _ _ _ loaded_accepted

  pub settings_read : settings_from load.settings.after ≡ load.says.loaded.settings
  settings_read =
      ap settings_from (load.says.rows.settings_are ∙ accepted_choice _ _ _ loaded_accepted)
      ∙ settings_back load.says.loaded.settings []

  pub read_decks_long : length load.decks ≡ sites_width
  read_decks_long = ap length decks_read ∙ length_sites_numbers load.says.loaded.sites

  pub read_desk_long : length load.desk ≡ desk_width
  read_desk_long =
      ap length desk_read ∙ length_coordinator_numbers load.says.loaded.coordinator

-- ---- A reading that is refused

front_stays : (memory : List ℕ) (front : Front)
    → front.left ≡ take front.count memory
    → with_front memory front ≡ memory
front_stays memory front stays =
    ap (λ (numbers : List ℕ). with_front memory (record { count = front.count; left = numbers }))
    stays
    ∙ part_same memory 0 front.count

module _ {bench : Bench} (load : LoadCall bench) (refused : load.answer ≡ no_refusal → ⊥) where
  none_read : load.says.loaded.refusal ≡ no_refusal → ⊥
  none_read accepts = refused (load.says.refusal ∙ accepts)

  pub unread_decks : load.decks ≡ bench.decks
  unread_decks = load.says.rows.decks_are ∙ refused_choice _ _ _ none_read

  pub unread_desk : load.desk ≡ bench.desk
  unread_desk = load.says.rows.desk_is ∙ refused_choice _ _ _ none_read

  pub reading_left : held_in (after_load load) ≡ held_in bench
  reading_left =
      let memory = front_stays bench.deck_memory load.deck_memory
      (load.says.says.site_memory ∙ refused_choice _ _ _ none_read) in
      let desk_memory = front_stays bench.desk_memory load.desk_memory
      (load.says.says.coordinator_memory ∙ refused_choice _ _ _ none_read) in
      λ i. held_by (sites_from (unread_decks i)) (coordinator_read (unread_desk i)) (memory i)
      (desk_memory i)

-- ---- Fronts that a reading is lent

pub whole_long : (words n : ℕ) (memory : List ℕ)
    → words ≤ length (take n memory)
    → words ≤ length memory
whole_long words n memory long = omega (arith, length-take n memory, long)

-- Written over a front, where all of it finds room: written over the whole.
pub written_whole : (numbers memory : List ℕ) (front : Front) (refusal words : ℕ) (source : List ℕ)
    → refusal ≡ no_refusal
    → numbers ≡ take words source
    → words ≤ length (take front.count memory)
    → front.left
    ≡ (if is_zero refusal then overwrite numbers (take front.count memory)
    else take front.count memory)
    → with_front memory front ≡ (if is_zero refusal then overwrite numbers memory else memory)
written_whole numbers memory front refusal words source accepts are long left =
    let n = front.count in
    let fits : length numbers ≤ length (take n memory) =
    omega (arith, ap length are, length-take words source, long) in
    ap (λ (part : List ℕ). with_front memory (record { count = n; left = part }))
    (left ∙ accepted_choice refusal _ _ accepts)
    ∙ overwrite_front numbers n memory fits
    ∙ sym (accepted_choice refusal _ _ accepts)
