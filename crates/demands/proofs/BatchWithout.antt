-- The model's batch with the touches that it accepted left out: it takes the same draws, sends the
-- same messages and stops at the same line.
--
--   SameBut                    two batches that differ in the number accepted alone
--   Without, without           one with touches and one without, arrival by arrival
--   batch_without              the model's batch without the touches that it accepted
use mathlib.Core.Path.{◌≡◌, refl, sym, ap, ◌∙◌, subst⁻¹}
use mathlib.Core.Bool.{Bool, true, false}
use mathlib.Core.List.{List, [], ◌∷◌, ◌++◌, append-nil}
use Prim.Native.Nat.{ℕ, suc, ◌+◌, ◌-◌}
use native.Mathlib.Omega.{arith}
use lib.ListN.{length, take, drop}
use Rattle.model.specs.declared.Settings.{Settings}
use Rattle.model.specs.declared.Arrival.{Arrival}
use Rattle.model.specs.Choice.{is_zero}
use Rattle.model.specs.Refusals.{no_refusal}
use Rattle.model.specs.Draws.{is_draw, draws_of}
use Rattle.model.specs.Network.{Network, Delivered, after_line}
use Rattle.model.specs.Runs.{Batch, batch_refusal, batch_from, fresh_batch, batch_of}
use Rattle.model.proofs.Touches.DrawLaws.{after_touch}
use Rattle.model.proofs.Touches.DrawLists.{draws_of_draw, draws_of_touch}
use Rattle.history.proofs.BatchRuns.{next_batch}
use Rattle.demands.specs.Touches.{without_touches}

-- Two batches that differ in the number accepted alone.
pub record SameBut (batch other : Batch) : Type 0 where
  pub same_network : other.network ≡ batch.network
  pub same_messages : other.messages ≡ batch.messages
  pub same_refusal : other.refusal ≡ batch.refusal

module _ (settings : Settings) (room : ℕ) where
  -- What a batch without touches comes to, beside one with them: so many more were accepted by
  -- the one, and the draws among them by the other.
  record Without (arrivals : List Arrival) (batch other : Batch) : Type 0 where
    taken : ℕ
    accepted_is : (batch_from settings room batch arrivals).accepted ≡ batch.accepted + taken
    same : SameBut (batch_from settings room batch arrivals)
        (batch_from settings room other (without_touches taken arrivals))
    draws_accepted : (batch_from settings room other (without_touches taken arrivals)).accepted
        ≡ other.accepted + length (draws_of (take taken arrivals))

  abbrev refusal_at : Batch → Arrival → ℕ
  refusal_at batch arrival =
      batch_refusal settings batch.network (room - length batch.messages) arrival

  -- A batch that an arrival stops, and one that goes on behind it.
  stops : (batch : Batch) (arrival : Arrival) (arrivals : List Arrival)
      → is_zero (refusal_at batch arrival) ≡ false
      → batch_from settings room batch (arrival ∷ arrivals)
      ≡ record {
        network = batch.network;
        accepted = batch.accepted;
        messages = batch.messages;
        refusal = refusal_at batch arrival;
      }
  stops batch arrival arrivals some = rw (some, batch_from)

  goes : (batch : Batch) (arrival : Arrival) (arrivals : List Arrival)
      → is_zero (refusal_at batch arrival) ≡ true
      → batch_from settings room batch (arrival ∷ arrivals)
      ≡ batch_from settings room (next_batch settings room batch arrival) arrivals
  goes batch arrival arrivals none = rw (none, batch_from)

  -- One arrival more in front, if both go on to what is known of the rest.
  carried : (arrival : Arrival) (arrivals : List Arrival) (batch other next other-next : Batch)
      (rest : Without arrivals next other-next)
      → batch_from settings room batch (arrival ∷ arrivals)
      ≡ batch_from settings room next arrivals
      → batch_from settings room other (without_touches (suc rest.taken) (arrival ∷ arrivals))
      ≡ batch_from settings room other-next (without_touches rest.taken arrivals)
      → next.accepted ≡ batch.accepted + 1
      → other-next.accepted + length (draws_of (take rest.taken arrivals))
      ≡ other.accepted + length (draws_of (take (suc rest.taken) (arrival ∷ arrivals)))
      → Without (arrival ∷ arrivals) batch other
  carried arrival arrivals batch other next other-next rest one two one_more as_many = record {
    taken = suc rest.taken;
    accepted_is =
        ap (λ (b : Batch). b.accepted) one
        ∙ rest.accepted_is
        ∙ omega (arith, one_more);
    same = record {
      same_network =
          ap (λ (b : Batch). b.network) two
          ∙ rest.same.same_network
          ∙ ap (λ (b : Batch). b.network) (sym one);
      same_messages =
          ap (λ (b : Batch). b.messages) two
          ∙ rest.same.same_messages
          ∙ ap (λ (b : Batch). b.messages) (sym one);
      same_refusal =
          ap (λ (b : Batch). b.refusal) two
          ∙ rest.same.same_refusal
          ∙ ap (λ (b : Batch). b.refusal) (sym one);
    };
    draws_accepted =
        ap (λ (b : Batch). b.accepted) two ∙ rest.draws_accepted ∙ as_many;
  }

  -- By recursion on the arrivals: a touch is passed over, a draw is taken by both, and what stops
  -- the one stops the other.
  without : (arrivals : List Arrival) (batch other : Batch)
      → SameBut batch other
      → other.refusal ≡ no_refusal
      → Without arrivals batch other
  without [] batch other same on = record {
    taken = 0;
    accepted_is = omega arith;
    same = same;
    draws_accepted = omega arith;
  }
  without (arrival ∷ arrivals) batch other same on =
      by_refusal (is_zero (refusal_at batch arrival)) refl (is_draw arrival) refl (without arrivals)
    where
      refusal_same : refusal_at other arrival ≡ refusal_at batch arrival
      refusal_same = λ i.
          batch_refusal settings (same.same_network i) (room - length (same.same_messages i))
          arrival

      by_refusal : (none : Bool) → is_zero (refusal_at batch arrival) ≡ none
          → (drawn : Bool) → is_draw arrival ≡ drawn
          → ((b c : Batch) → SameBut b c → c.refusal ≡ no_refusal → Without arrivals b c)
          → Without (arrival ∷ arrivals) batch other
      by_refusal false some drawn is later =
          let one = stops batch arrival arrivals some in
          let two = stops other arrival arrivals (ap is_zero refusal_same ∙ some) in
          record {
            taken = 0;
            accepted_is = ap (λ (b : Batch). b.accepted) one ∙ omega arith;
            same = record {
              same_network =
                  ap (λ (b : Batch). b.network) two ∙ same.same_network
                  ∙ ap (λ (b : Batch). b.network) (sym one);
              same_messages =
                  ap (λ (b : Batch). b.messages) two ∙ same.same_messages
                  ∙ ap (λ (b : Batch). b.messages) (sym one);
              same_refusal =
                  ap (λ (b : Batch). b.refusal) two ∙ refusal_same
                  ∙ ap (λ (b : Batch). b.refusal) (sym one);
            };
            draws_accepted = ap (λ (b : Batch). b.accepted) two ∙ omega arith;
          }
      by_refusal true none true is_draw_lem later =
          let next = next_batch settings room batch arrival in
          let other-next = next_batch settings room other arrival in
          let on_both = later next other-next
          (record {
            same_network =
                ap (λ (n : Network). (after_line settings n arrival).network) same.same_network;
            same_messages = λ i.
                same.same_messages i
                ++ (after_line settings (same.same_network i) arrival).messages;
            same_refusal = refl;
          }) refl in
          let shape : without_touches (suc on_both.taken) (arrival ∷ arrivals)
          ≡ arrival ∷ without_touches on_both.taken arrivals =
          ap (λ (xs : List Arrival). xs ++ drop on_both.taken arrivals)
          (draws_of_draw arrival (take on_both.taken arrivals) is_draw_lem) in
          let two : batch_from settings room other
          (without_touches (suc on_both.taken) (arrival ∷ arrivals))
          ≡ batch_from settings room other-next (without_touches on_both.taken arrivals) =
          ap (batch_from settings room other) shape
          ∙ goes other arrival (without_touches on_both.taken arrivals)
          (ap is_zero refusal_same ∙ none) in
          carried arrival arrivals batch other next other-next on_both
          (goes batch arrival arrivals none) two refl
          (omega (
            arith,
            ap length (draws_of_draw arrival (take on_both.taken arrivals) is_draw_lem),
          ))
      by_refusal true none false no_draw later =
          let next = next_batch settings room batch arrival in
          let left = after_touch settings batch.network arrival no_draw in
          let on_one = later next other
          (record {
            same_network =
                same.same_network ∙ ap (λ (d : Delivered). d.network) (sym left);
            same_messages =
                same.same_messages
                ∙ sym (append-nil batch.messages)
                ∙ ap (λ (d : Delivered). batch.messages ++ d.messages) (sym left);
            same_refusal = on;
          }) on in
          let shape : without_touches (suc on_one.taken) (arrival ∷ arrivals)
          ≡ without_touches on_one.taken arrivals =
          ap (λ (xs : List Arrival). xs ++ drop on_one.taken arrivals)
          (draws_of_touch arrival (take on_one.taken arrivals) no_draw) in
          carried arrival arrivals batch other next other on_one
          (goes batch arrival arrivals none) (ap (batch_from settings room other) shape) refl
          (omega (
            arith,
            ap length (draws_of_touch arrival (take on_one.taken arrivals) no_draw),
          ))

-- ---- A whole batch

-- The model's batch without the touches among the first so many arrivals.
pub record SameWithout
    (settings : Settings)
    (room : ℕ)
    (network : Network)
    (arrivals : List Arrival)
    (taken : ℕ) : Type 0 where
  pub same : SameBut (batch_of settings room network arrivals)
      (batch_of settings room network (without_touches taken arrivals))
  pub draws_accepted : (batch_of settings room network (without_touches taken arrivals)).accepted
      ≡ length (draws_of (take taken arrivals))

-- Among those that it accepted.
pub batch_without : (settings : Settings) (room : ℕ) (network : Network) (arrivals : List Arrival)
    → SameWithout settings room network arrivals
    (batch_of settings room network arrivals).accepted
batch_without settings room network arrivals =
    let fresh = fresh_batch network in
    let both = without settings room arrivals fresh fresh
    (record { same_network = refl; same_messages = refl; same_refusal = refl }) refl in
    let as_many : (batch_of settings room network arrivals).accepted ≡ both.taken =
    both.accepted_is ∙ omega arith in
    subst⁻¹ (SameWithout settings room network arrivals) as_many
    (record { same = both.same; draws_accepted = both.draws_accepted ∙ omega arith })
