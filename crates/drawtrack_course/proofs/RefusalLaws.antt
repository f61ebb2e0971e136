-- The line of a refusal is short: document 01's numbers have at most two digits.
--
--   the laws -small                      the numbers that end a session
--   malformed_refusal                    a line that is no draw and refused is malformed
--   refused_line_lem                     the line stands in the output
use Rattle.std.specs.Prelude.{if◌then◌else◌}
use mathlib.Core.Path.{◌≡◌, refl, sym}
use mathlib.Core.Bool.{Bool, true, false, not, false≢true}
use mathlib.Core.List.{List}
use Prim.Native.Nat.{ℕ, zero, suc, ◌*◌, ◌≤◌}
use native.Mathlib.Omega.{arith}
use lib.Dec.{leb, ltb}
use lib.ListN.{length, take, drop}
use borrow.Author.Tests.{eqb-true}
use Rattle.model.specs.declared.Settings.{Settings}
use Rattle.model.specs.declared.Arrival.{Arrival}
use Rattle.model.specs.Choice.{is_zero}
use Rattle.model.specs.Refusals.{when, ◌or_else◌, malformed_line}
use Rattle.model.specs.Limits.{top_value, site_limit}
use Rattle.model.specs.Settings.{in_range, settings_refusal}
use Rattle.model.specs.Draws.{is_draw}
use Rattle.model.specs.Site.{address_refusal}
use Rattle.model.specs.Network.{Network, site_at}
use Rattle.model.specs.Lines.{Fields, malformed, fields, read_fields}
use Rattle.model.specs.Runs.{refusal_in, line_refusal_in}
use Rattle.model.specs.Transcript.{refused_line, beyond_program}
use Rattle.output_transcript.proofs.LineBounds.{line_claims}
use Rattle.worklist_reader.specs.Promises.{line_refusal, settings_in, bytes_after}
use Rattle.worklist_reader.specs.Walk.{step_of, step_at}
use Rattle.output_lines.specs.Promises.{at_start, line_after}
use Rattle.output_lines.proofs.OutputLaws.{line_fits}
use Rattle.drawtrack_course.specs.Rooms.{out_room}
use Rattle.drawtrack_course.specs.Course.{begin_refusal}

when_small : (test : Bool) (refusal : ℕ) → refusal ≤ 99 → when test refusal ≤ 99
when_small true refusal small = small
when_small false refusal small = omega arith

or_small : (first later : ℕ) → first ≤ 99 → later ≤ 99 → (first or_else later) ≤ 99
or_small zero later small-first small-later = small-later
or_small (suc first) later small-first small-later = small-first

-- One row of a chain, and the rows after it.
row_small : (test : Bool) (refusal later : ℕ) → refusal ≤ 99 → later ≤ 99
    → (when test refusal or_else later) ≤ 99
row_small test refusal later small rest =
    or_small (when test refusal) later (when_small test refusal small) rest

settings_small : (settings : Settings) → settings_refusal settings ≤ 99
settings_small settings =
    row_small (not (in_range settings)) 1 _ (omega arith)
    (row_small (ltb settings.phi settings.epsilon) 2 _ (omega arith)
    (row_small (ltb (settings.capacity * settings.epsilon) 6000) 3 0 (omega arith) (omega arith)))

pub draw_small : (settings : Settings) (network : Network) (arrival : Arrival)
    → line_refusal_in settings network arrival ≤ 99
draw_small settings network arrival = by_draw (is_draw arrival)
  where
    address_small : address_refusal settings arrival ≤ 99
    address_small =
        row_small (leb settings.sites arrival.site) 5 _ (omega arith)
        (row_small (leb settings.universe arrival.item) 6 _ (omega arith)
        (row_small (ltb top_value arrival.value) 7 0 (omega arith) (omega arith)))

    by_draw : (drawn : Bool)
        → (if drawn then refusal_in settings network arrival else address_refusal settings arrival)
        ≤ 99
    by_draw true =
        or_small (address_refusal settings arrival) _ address_small
        (row_small (leb site_limit (site_at network arrival.site).arrivals) 8 0 (omega arith)
        (omega arith))
    by_draw false = address_small

pub begin_small : (input : List ℕ) (found : Fields) → begin_refusal input found ≤ 99
begin_small input found =
    or_small (line_refusal found) _ (line_small found)
    (or_small (settings_refusal (settings_in found)) _ (settings_small (settings_in found))
    (row_small (beyond_program (settings_in found) (length (bytes_after input found))) 4 0
    (omega arith) (omega arith)))
  where
    line_small : (line : Fields) → line_refusal line ≤ 99
    line_small malformed = omega arith
    line_small (fields numbers rest) = omega arith

-- A line that is no draw and refused is malformed.
pub malformed_refusal : (input : List ℕ) (at line : ℕ)
    → is_zero (step_at input at line).refusal ≡ false
    → (step_at input at line).refusal ≡ malformed_line
malformed_refusal input at line = by_end (leb (length input) at) refl
  where
    by_fields : (found : Fields) → is_zero (step_of input at line found).refusal ≡ false
        → (step_of input at line found).refusal ≡ malformed_line
    by_fields malformed some = refl
    by_fields (fields numbers rest) some = absurd (false≢true (sym some))

    by_end : (over : Bool) → leb (length input) at ≡ over
        → is_zero (step_at input at line).refusal ≡ false
        → (step_at input at line).refusal ≡ malformed_line
    by_end true over = rw over (λ some. absurd (false≢true (sym some)))
    by_end false more = rw more (by_fields (read_fields 3 (drop at input)))

pub step_small : (input : List ℕ) (at line : ℕ) → (step_at input at line).refusal ≤ 99
step_small input at line = by_refusal (is_zero (step_at input at line).refusal) refl
  where
    by_refusal : (none : Bool) → is_zero (step_at input at line).refusal ≡ none
        → (step_at input at line).refusal ≤ 99
    by_refusal true none = omega (arith, eqb-true (step_at input at line).refusal 0 none)
    by_refusal false some = omega (arith, malformed_refusal input at line some)

pub refused_line_lem : (refusal : ℕ) (out : List ℕ)
    → refusal ≤ 99
    → out_room ≤ length out
    → let written = line_after (at_start out) (refused_line refusal) in
    take written.place written.out ≡ refused_line refusal
refused_line_lem refusal out small long =
    (line_fits (refused_line refusal) (at_start out)
    (omega (arith, line_claims.refused refusal (omega (arith, small)), long))).bytes_are
