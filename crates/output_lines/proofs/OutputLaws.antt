-- Laws of lines written one after the other into an output, each whole or not at all.
--
--   line_fits, fits_all, Fitted  lines that fit all stand there, one after the other
--   lines_kept, Kept             past the last line the output is as it was
use mathlib.Core.Path.{◌≡◌, refl, sym, ap, ◌∙◌}
use mathlib.Core.Bool.{Bool, true, false}
use mathlib.Core.List.{List, [], ◌∷◌, ◌++◌, append_assoc, append-nil}
use Prim.Native.Nat.{ℕ, ◌+◌, ◌-◌, ◌≤◌}
use native.Mathlib.Nat.{add-zero}
use native.Mathlib.Omega.{arith}
use lib.ListN.{length, take, drop, length-append}
use lib.Seq.{drop-drop}
use borrow.Author.Tests.{le-leb, leb-true}
use Rattle.laws.specs.Writing.{fit}
use Rattle.laws.proofs.Writing.{length_written, take_written, drop_written, joined}
use Rattle.output_lines.specs.Promises.{Written, line_after, lines_after}

-- ---- Lines that fit

pub record Fitted (before : Written) (bytes : List ℕ) (after : Written) : Type 0 where
  pub place_after : after.place ≡ before.place + length bytes
  pub bytes_are : take after.place after.out ≡ take before.place before.out ++ bytes
  pub length_same : length after.out ≡ length before.out

pub line_fits : (line : List ℕ) (before : Written)
    → before.place + length line ≤ length before.out
    → Fitted before line (line_after before line)
line_fits line before fits =
    let place = before.place in
    let out = before.out in
    rw (le-leb (place + length line) (length out) fits) (record {
      place_after = refl;
      bytes_are = take_written place line out fits;
      length_same = length_written place line out fits;
    })

pub fits_all : (lines : List (List ℕ)) (before : Written)
    → before.place + length (joined lines) ≤ length before.out
    → Fitted before (joined lines) (lines_after before lines)
fits_all [] before fits = record {
  place_after = sym (add-zero before.place);
  bytes_are = sym (append-nil (take before.place before.out));
  length_same = refl;
}
fits_all (line ∷ lines) before fits =
    let both = length-append line (joined lines) in
    let first = line_fits line before (omega (arith, both)) in
    let others = fits_all lines (line_after before line)
    (omega (arith, both, first.place_after, first.length_same)) in
    record {
      place_after = omega (arith, both, first.place_after, others.place_after);
      bytes_are =
          others.bytes_are
          ∙ ap (λ (front : List ℕ). front ++ joined lines) first.bytes_are
          ∙ append_assoc (take before.place before.out) line (joined lines);
      length_same = others.length_same ∙ first.length_same;
    }

-- ---- Past the last line

-- The places written grow within the output, and those after them are as they were.
pub record Kept (before after : Written) : Type 0 where
  pub further : before.place ≤ after.place
  pub within : after.place ≤ length after.out
  pub length_same : length after.out ≡ length before.out
  pub rest_same : drop after.place after.out ≡ drop after.place before.out

line_kept : (line : List ℕ) (before : Written)
    → before.place ≤ length before.out
    → Kept before (line_after before line)
line_kept line before inside = by_room (fit line before.place before.out) refl
  where
    by_room : (fits : Bool) → fit line before.place before.out ≡ fits
        → Kept before (line_after before line)
    by_room true fits =
        let small = leb-true (before.place + length line) (length before.out) fits in
        let same = length_written before.place line before.out small in
        rw fits (record {
          further = omega arith;
          within = omega (arith, same, small);
          length_same = same;
          rest_same = drop_written before.place line before.out small;
        })
    by_room false short = rw short (record {
      further = omega arith;
      within = inside;
      length_same = refl;
      rest_same = refl;
    })

-- More lines only reach further: what is the same past a place is so past a later one.
later_same : (place further : ℕ) (xs ys : List ℕ)
    → place ≤ further
    → drop place xs ≡ drop place ys
    → drop further xs ≡ drop further ys
later_same place further xs ys more same =
    split xs ∙ ap (drop (further - place)) same ∙ sym (split ys)
  where
    is : place + (further - place) ≡ further
    is = omega arith

    split : (zs : List ℕ) → drop further zs ≡ drop (further - place) (drop place zs)
    split zs = sym (drop-drop (further - place) place zs ∙ ap (λ (n : ℕ). drop n zs) is)

pub lines_kept : (lines : List (List ℕ)) (before : Written)
    → before.place ≤ length before.out
    → Kept before (lines_after before lines)
lines_kept [] before inside = record {
  further = omega arith;
  within = inside;
  length_same = refl;
  rest_same = refl;
}
lines_kept (line ∷ lines) before inside =
    let first = line_kept line before inside in
    let others = lines_kept lines (line_after before line) first.within in
    record {
      further = omega (arith, first.further, others.further);
      within = others.within;
      length_same = others.length_same ∙ first.length_same;
      rest_same =
          others.rest_same
          ∙ later_same _ _ _ _ others.further first.rest_same;
    }
