-- Pieces written one after another over a lent list of any elements: bytes, or numbers.
--
--   written_at place piece list          the list with a piece written over it from a place on
--   fit piece place list                 whether the piece fits there
--   Put piece place before after next    the piece is written, and `next` is the place after it
use Rattle.std.specs.Prelude.{◌≡◌, Bool, List, ◌++◌, ℕ, ◌+◌, leb, length, take, drop}

abbrev pub written_at : {A : Type 0} → ℕ → List A → List A → List A
written_at place piece list = take place list ++ piece ++ drop (place + length piece) list

abbrev pub fit : {A : Type 0} → List A → ℕ → List A → Bool
fit piece place list = leb (place + length piece) (length list)

-- For a piece that fits.
pub record Put {A : Type 0} (piece : List A) (place : ℕ) (before after : List A) (next : ℕ) : Type 0
  where
    pub place_after : next ≡ place + length piece
    pub out : after ≡ written_at place piece before
