-- What a beginning is worth: the piece of the transcript before the first line, and a session that
-- stands after no arrival.
--
--   rest_read       what stands behind the settings line
--   begin_right     the beginning, refused or not
use mathlib.Core.Path.{◌≡◌, refl, sym, ap, ◌∙◌, subst}
use mathlib.Core.Bool.{Bool, true, false, false≢true}
use mathlib.Core.List.{List, []}
use Prim.Native.Nat.{ℕ, ◌-◌, ◌≤◌}
use native.Mathlib.Omega.{arith}
use lib.ListN.{length, drop, length-append}
use lib.Seq.{drop_at}
use borrow.Author.Tests.{eqb-true, eq-eqb, le-ltb}
use Rattle.model.specs.declared.Settings.{Settings}
use Rattle.model.specs.Choice.{is_zero}
use Rattle.model.specs.Refusals.{no_refusal}
use Rattle.model.specs.Coordinator.{fresh_coordinator}
use Rattle.model.specs.CoordinatorMemory.{coordinator_record, coordinator_memory}
use Rattle.model.specs.NetworkMemory.{fresh_sites}
use Rattle.model.specs.Lines.{Fields, malformed, fields, line_feed, read_fields}
use Rattle.model.specs.Transcript.{refused_line}
use Rattle.model.proofs.Worklists.LineTaken.{fields_taken}
use Rattle.worklist_reader.specs.Promises.{line_refusal, settings_in, bytes_after}
use Rattle.site_start.specs.Starts.{SitesStart}
use Rattle.site_start.specs.Starts as SiteStarts
use Rattle.coordinator.specs.Calls.{CoordinatorStart}
use Rattle.coordinator.specs.Calls as CoordinatorCalls
use Rattle.history.specs.State.{State}
use Rattle.history.specs.Histories.{start_state}
use Rattle.history.proofs.Invariant.{StateOk, Resting, rest_of_standing}
use Rattle.history.proofs.StartedState.{start_ok}
use Rattle.drawtrack_steps.specs.declared.Moved.{Moved}
use Rattle.drawtrack_steps.specs.Outcome.{Buffers, Outcome, refused_of}
use Rattle.drawtrack_start.specs.Limits.{site_room, coordinator_room}
use Rattle.drawtrack_course.specs.Rooms.{out_room}
use Rattle.drawtrack_session.specs.Begin.{begin_refusal_of, fresh_session, first_session, started_of, begin_of, BeginSays}
use Rattle.drawtrack_course.specs.Course.{Represents, begin_refusal, BeginRight}
use Rattle.drawtrack_start.proofs.StartLaws.{Served, served}
use Rattle.drawtrack_session.proofs.BeginLaws.{sites_start, coordinator_start}
use Rattle.drawtrack_course.proofs.RefusalLaws.{begin_small, refused_line_lem}

-- ---- Behind the settings line

pub rest_read : (input : List ℕ)
    → drop (length input - length (bytes_after input (read_fields 6 input))) input
    ≡ bytes_after input (read_fields 6 input)
rest_read input = by_fields (read_fields 6 input) refl
  where
    by_fields : (found : Fields) → read_fields 6 input ≡ found
        → drop (length input - length (bytes_after input found)) input ≡ bytes_after input found
    by_fields malformed is =
        let none : length input - length input ≡ 0 = omega arith in
        ap (λ (n : ℕ). drop n input) none
    by_fields (fields numbers rest) is =
        let taken = fields_taken line_feed 6 input numbers rest is in
        let front : length taken.front ≡ length input - length rest =
        omega (arith, ap length taken.splits, length-append taken.front rest) in
        ap (drop (length input - length rest)) taken.splits
        ∙ drop_at taken.front rest (length input - length rest) front

-- ---- A start on long enough memory

module _ (settings : Settings) (at : ℕ) (site_memory memory : List ℕ)
    (fit : Served settings (length site_memory) (length memory)) where
  abbrev sites : SitesStart
  sites = record { refusal = SiteStarts.start_refusal settings site_memory; sites = fresh_sites }

  abbrev coordinator : CoordinatorStart
  coordinator = record {
    refusal = CoordinatorCalls.start_refusal settings (length memory);
    coordinator = coordinator_record (fresh_coordinator settings);
  }

  abbrev site_after : List ℕ
  site_after = SiteStarts.cleared settings site_memory

  abbrev after : List ℕ
  after = coordinator_memory (fresh_coordinator settings) memory

  sites_accepted : SiteStarts.start_refusal settings site_memory ≡ no_refusal
  sites_accepted = sites_start settings site_memory memory fit

  coordinator_accepted : CoordinatorCalls.start_refusal settings (length memory) ≡ no_refusal
  coordinator_accepted = coordinator_start settings site_memory memory fit

  abbrev there : State
  there = start_state fresh_sites (coordinator_record (fresh_coordinator settings)) site_after after

  ok : StateOk settings 0 there
  ok =
      start_ok settings site_memory site_after memory after sites coordinator
      (record {
        refusal = refl;
        sites = refl;
        memory = sym (rw (eq-eqb (SiteStarts.start_refusal settings site_memory) 0 sites_accepted));
      })
      sites_accepted
      (record {
        refusal = refl;
        coordinator = refl;
        memory =
            sym (rw (eq-eqb (CoordinatorCalls.start_refusal settings (length memory)) 0
            coordinator_accepted));
      })
      coordinator_accepted

  rest : Resting settings there
  rest = rest_of_standing fit.passes ok.standing refl refl

  fresh_stands : Represents (fresh_session settings at) site_after after []
  fresh_stands = record {
    settings_accepted = fit.passes;
    few_sites = fit.few_sites;
    few_items = fit.few_items;
    all_records = ok.lengths.all_records;
    sites_long = ok.lengths.sites_long;
    coordinator_long = ok.lengths.coordinator_long;
    network_is = rest.network_is;
    accepted_are = rest.accepted_are;
    counts_are = ok.counts_are;
  }

-- ---- The beginning

module _ (input : List ℕ) (given : Buffers)
    (sites_long : site_room ≤ length given.site_memory)
    (coordinator_long : coordinator_room ≤ length given.coordinator_memory)
    (out_long : out_room ≤ length given.out) where
  abbrev found : Fields
  found = read_fields 6 input

  abbrev rule : ℕ
  rule = begin_refusal input found

  abbrev Right : Outcome → Type 0
  Right there = BeginRight input there.left there.moved

  rule_is : begin_refusal_of input found given ≡ rule
  rule_is =
      rw (
        le-ltb (length given.site_memory) site_room sites_long,
        le-ltb (length given.coordinator_memory) coordinator_room coordinator_long,
      )

  refused_right : is_zero rule ≡ false
      → Right (refused_of (first_session input found) (begin_refusal_of input found given) given)
  refused_right some = record {
    bytes =
        refused_line_lem (begin_refusal_of input found given) given.out
        (omega (arith, rule_is, begin_small input found)) out_long
        ∙ rw some (ap refused_line rule_is);
    going = rw some;
    refusal = rule_is;
    settings = refl;
    begun = λ fine. absurd (false≢true (sym some ∙ fine));
  }

  started_right : is_zero rule ≡ true → Right (started_of (first_session input found) given)
  started_right fine =
      let none = rule_is ∙ eqb-true rule 0 fine in
      let fit = served (line_refusal found) (settings_in found) (length (bytes_after input found))
      (length given.site_memory) (length given.coordinator_memory) none in
      record {
        bytes = rw fine;
        going = rw fine;
        refusal = sym (eqb-true rule 0 fine);
        settings = refl;
        begun = λ _. record {
          settings_are = refl;
          represents =
              fresh_stands (settings_in found) (first_session input found).at given.site_memory
              given.coordinator_memory fit;
          worklist = rest_read input;
          first_line = refl;
        };
      }

  right_of : Right (begin_of input given)
  right_of = by_rule (is_zero rule) refl
    where
      by_rule : (fine : Bool) → is_zero rule ≡ fine → Right (begin_of input given)
      by_rule true fine =
          subst Right (sym (rw (ap is_zero rule_is ∙ fine))) (started_right fine)
      by_rule false some =
          subst Right (sym (rw (ap is_zero rule_is ∙ some))) (refused_right some)

  pub begin_right : (left : Buffers) (answer : Moved)
      → BeginSays input given left answer
      → BeginRight input left answer
  begin_right left answer says = subst Right (sym says.is) right_of
