-- The messages of a close in closed form, and how many they are. PROOF.md section 4.
--
--   poll_messages sites j n                  kinds 3 and 4 of n sites from site j on
--   probe_messages sites value j n           kinds 5 and 6 of n sites from site j on, for one value
--   halving_messages sites k test h low high  kinds 5 and 6 of up to h halvings at k sites
--   announcements threshold base j n         kind 7 for n sites from site j on
--   length-*                                 their numbers: 2 * n, 2 * n, 2 * k a halving, n
use mathlib.Core.Path.{◌≡◌, refl}
use mathlib.Core.Bool.{Bool, true, false}
use mathlib.Core.List.{List, [], ◌∷◌, ◌++◌}
use Prim.Native.Nat.{ℕ, zero, suc, ◌+◌, ◌*◌, ◌^◌, ◌<◌}
use native.Mathlib.Omega.{arith}
use lib.Dec.{eqb}
use lib.ListN.{length, get_or, length-append}
use lib.Pow.{pow_pos}
use borrow.Author.Tests.{eq-eqb, ne_eqb}
use Rattle.model.specs.declared.Message.{Message}
use Rattle.model.specs.Messages.{poll, poll_answer, probe, probe_answer, announcement}
use Rattle.model.specs.Site.{Site, fresh_site, up_to}
use Rattle.model.specs.Coordinator.{middle}

-- ---- Questions and answers, one site after another

-- Each site from j on, n of them, is asked and answers.
abbrev pub exchanges : (ℕ → Message) → (ℕ → Message) → ℕ → ℕ → List Message
exchanges ask answer j zero = []
exchanges ask answer j (suc n) = ask j ∷ (answer j ∷ exchanges ask answer (suc j) n)

-- A question and an answer for each.
pub length_exchanges : (ask answer : ℕ → Message) (j n : ℕ)
    → length (exchanges ask answer j n) ≡ 2 * n
length_exchanges ask answer j zero = refl
length_exchanges ask answer j (suc n) = omega (arith, length_exchanges ask answer (suc j) n)

-- What a site has pending, and how many of its arrivals are at or below a value.
abbrev pub pending_at : List Site → ℕ → ℕ
pending_at sites j = (get_or sites j fresh_site).pending

-- The arrivals of site j at or below a value.
abbrev pub up_to_at : ℕ → List Site → ℕ → ℕ
up_to_at value sites j = up_to value (get_or sites j fresh_site).histogram

-- Kind 3 with kind 4, from site j on.
abbrev pub poll_messages : List Site → ℕ → ℕ → List Message
poll_messages sites j n = exchanges poll (λ i. poll_answer i (pending_at sites i)) j n

-- Kind 5 with kind 6 for one value, from site j on.
abbrev pub probe_messages : List Site → ℕ → ℕ → ℕ → List Message
probe_messages sites value j n =
    exchanges (λ i. probe i value) (λ i. probe_answer i value (up_to_at value sites i)) j n

-- ---- Halvings

-- All sites are probed once for each halving. Shut, as `halve` is.
pub halving_messages : List Site → ℕ → (ℕ → Bool) → ℕ → ℕ → ℕ → List Message
halving_messages sites k test zero low high = []
halving_messages sites k test (suc h) low high =
    elim (eqb low high) [
      | true ↦ []
      | false ↦ probe_messages sites (middle low high) 0 k
          ++ elim (test (middle low high)) [
            | true ↦ halving_messages sites k test h low (middle low high)
            | false ↦ halving_messages sites k test h (middle low high + 1) high
          ]
    ]

module _ (sites : List Site) (k : ℕ) (test : ℕ → Bool) where
  -- One value is left: nothing is asked.
  pub halving_messages_done : (h low high : ℕ)
      → low ≡ high
      → halving_messages sites k test h low high ≡ []
  unfolding halving_messages
  halving_messages_done zero low high done = refl
  halving_messages_done (suc h) low high done = rw (eq-eqb low high done, halving_messages)

  -- The test holds at the middle: the lower half follows.
  pub halving_messages_lower : (h low high : ℕ)
      → low < high
      → test (middle low high) ≡ true
      → halving_messages sites k test (suc h) low high
      ≡ probe_messages sites (middle low high) 0 k
      ++ halving_messages sites k test h low (middle low high)
  unfolding halving_messages
  halving_messages_lower h low high wide holds =
      rw (ne_eqb low high (λ done. omega arith), halving_messages, holds, halving_messages)

  -- It fails there: the upper half follows.
  pub halving_messages_upper : (h low high : ℕ)
      → low < high
      → test (middle low high) ≡ false
      → halving_messages sites k test (suc h) low high
      ≡ probe_messages sites (middle low high) 0 k
      ++ halving_messages sites k test h (middle low high + 1) high
  unfolding halving_messages
  halving_messages_upper h low high wide fails =
      rw (ne_eqb low high (λ done. omega arith), halving_messages, fails, halving_messages)

  -- Each halving has 2 * k messages; an interval of exactly 2 ^ h values takes h of them.
  pub length_halving_messages : (h low high : ℕ)
      → high + 1 ≡ low + 2 ^ h
      → length (halving_messages sites k test h low high) ≡ 2 * (k * h)
  length_halving_messages zero low high exact =
      rw (halving_messages_done zero low high (omega arith)) (omega arith)
  length_halving_messages (suc h) low high exact =
      by_test (test (middle low high)) refl
      (length_halving_messages h low (middle low high) (omega arith))
      (length_halving_messages h (middle low high + 1) high (omega arith))
    where
      wide : low < high
      wide = omega (arith, pow_pos h)

      by_test : (lower : Bool) → test (middle low high) ≡ lower
          → length (halving_messages sites k test h low (middle low high)) ≡ 2 * (k * h)
          → length (halving_messages sites k test h (middle low high + 1) high) ≡ 2 * (k * h)
          → length (halving_messages sites k test (suc h) low high) ≡ 2 * (k * suc h)
      by_test true holds in-lower in-upper =
          rw (halving_messages_lower h low high wide holds, length-append, length_exchanges)
          (omega arith)
      by_test false fails in-lower in-upper =
          rw (halving_messages_upper h low high wide fails, length-append, length_exchanges)
          (omega arith)

-- ---- Announcements

-- Kind 7 for each site from j on, n of them.
abbrev pub announcements : ℕ → ℕ → ℕ → ℕ → List Message
announcements threshold base j zero = []
announcements threshold base j (suc n) =
    announcement j threshold base ∷ announcements threshold base (suc j) n

-- One for each.
pub length_announcements : (threshold base j n : ℕ)
    → length (announcements threshold base j n) ≡ n
length_announcements threshold base j zero = refl
length_announcements threshold base j (suc n) =
    omega (arith, length_announcements threshold base (suc j) n)
