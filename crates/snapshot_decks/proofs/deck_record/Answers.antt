-- Five numbers behind the deck's memory.
use mathlib.Core.Path.{sym, ap, ◌∙◌}
use Prim.Native.Nat.{ℕ, ◌+◌, ◌*◌}
use native.Mathlib.Nat.{add-zero}
use native.Mathlib.Omega.{arith}
use Rattle.little_endian.specs.Numbers.{number_at}
use Rattle.snapshot_decks.proofs.DeckLaws.{record_number}
use Rattle.snapshot_decks.proofs.deck_record.Goals as goal

pub returns : goal.returns
returns c =
    let a = c.args in
    let at = a.place + 4 * c.site_words.result in
    let at-is = ap (λ (n : ℕ). a.place + 4 * n) c.site_words.ensures in
    λ i. record {
      arrivals = record_number a.settings a.file.now a.place 0 at _ (omega arith) at-is
          (c.read_fixed.ensures.0
          ∙ ap (λ (n : ℕ). number_at 4 n a.file.now) (sym (add-zero at)))
          i;
      pending = record_number a.settings a.file.now a.place 1 at _ (omega arith) at-is
          c.read_fixed-2.ensures.0 i;
      threshold = record_number a.settings a.file.now a.place 2 at _ (omega arith) at-is
          c.read_fixed-3.ensures.0 i;
      used = record_number a.settings a.file.now a.place 3 at _ (omega arith) at-is
          c.read_fixed-4.ensures.0 i;
      dropped = record_number a.settings a.file.now a.place 4 at _ (omega arith) at-is
          c.read_fixed-5.ensures.0 i;
    }
