-- The end of the worklist: the call that writes the results does what its definition says.
--
--   settings_pass                      the list call is accepted for settings that pass alone
--   quantile_or_none                   the quantile that was read, none where it is refused
--   finish_refused, finish_listed      the two answers
use Rattle.std.specs.Prelude.{Result, Ok, Err, Option, None}
use Rattle.std.specs.Result.{result_unwrap_or}
use mathlib.Core.Path.{◌≡◌, refl, sym, ap, ◌∙◌}
use mathlib.Core.List.{List, [], ◌∷◌, ◌++◌}
use Prim.Native.Nat.{ℕ}
use lib.ListN.{length, take}
use lib.Seq.{take_at}
use borrow.Author.Tests.{eq-eqb, ne_eqb}
use Rattle.model.specs.declared.Settings.{Settings}
use Rattle.model.specs.declared.Refusal.{Refusal}
use Rattle.model.specs.Refusals.{no_refusal}
use Rattle.model.specs.Settings.{settings_refusal}
use Rattle.model.specs.SiteMemory.{overwrite}
use Rattle.model.specs.Coordinator.{Coordinator}
use Rattle.model.specs.CoordinatorMemory.{coordinator_in, coordinator_memory_refusal}
use Rattle.model.specs.Reading.{heavy_hitters, quantile_of}
use Rattle.model.specs.Transcript.{end_line, class_word, messages_word, quantile_word}
use Rattle.model.proofs.Thresholds.RefusalLaws.{both_accepted}
use Rattle.output_lines.specs.Promises.{counted_line, listed_line, Written, written_to, at_start, line_after, lines_after, LineWritten}
use Rattle.coordinator_reading.specs.Promises.{QuantileAnswer, quantile_answer, QuantileSays}
use Rattle.coordinator_list.specs.Promises.{list_refusal, ListAnswer, ListSays}
use Rattle.message_counts.specs.Totals.{total_held}
use Rattle.drawtrack_steps.specs.declared.Session.{Session}
use Rattle.drawtrack_steps.specs.Outcome.{outcome, ended, RefuseSays, refused_of, buffers}
use Rattle.drawtrack_steps.specs.declared.Moved.{Moved}
use Rattle.drawtrack_steps.specs.Steps.{result_lines_of, FinishSays}

pub settings_pass : (session : Session) (memory listBefore listAfter : List ℕ) (listed : ListAnswer)
    → ListSays session.settings session.coordinator memory listBefore listAfter listed
    → listed.refusal ≡ no_refusal
    → settings_refusal session.settings ≡ no_refusal
settings_pass session memory listBefore listAfter listed lists none =
    let tested = coordinator_memory_refusal session.settings session.coordinator memory in
    (both_accepted (settings_refusal session.settings) _
    (both_accepted tested _ (sym lists.refusal ∙ none)).first_accepted).first_accepted

pub quantile_or_none : (read : Result (Option ℕ) Refusal)
    → result_unwrap_or read None ≡ (quantile_answer read).quantile
quantile_or_none (Ok found) = refl
quantile_or_none (Err refusal) = refl

module _ (session : Session) (memory listBefore listAfter : List ℕ) (listed : ListAnswer)
    (lists : ListSays session.settings session.coordinator memory listBefore listAfter listed)
    (before after : List ℕ) (moved : Moved) where
  abbrev settings : Settings
  settings = session.settings

  abbrev rule : ℕ
  rule = list_refusal settings session.coordinator memory (length listBefore)

  abbrev c : Coordinator
  c = coordinator_in settings session.coordinator memory

  pub finish_refused : RefuseSays session listed.refusal before after moved
      → (listed.refusal ≡ no_refusal → ⊥)
      → FinishSays session memory listBefore before listAfter after moved
  finish_refused refuses refused =
      let some = ne_eqb rule 0 (λ none. refused (lists.refusal ∙ none)) in
      let same : listAfter ≡ listBefore = rw some at lists.list in
      record {
        is = λ site_memory log.
            refuses.is (buffers site_memory memory log listAfter [])
            ∙ (λ i. refused_of session (lists.refusal i)
            (buffers site_memory memory log (same i) before))
            ∙ sym (rw some);
      }

  module _ (none : listed.refusal ≡ no_refusal) (read : QuantileAnswer)
      (reads : QuantileSays settings session.coordinator memory read) where
    fine : rule ≡ no_refusal
    fine = sym lists.refusal ∙ none

    list_is : listAfter ≡ overwrite (heavy_hitters settings c) listBefore
    list_is = lists.list ∙ rw (eq-eqb rule 0 fine)

    items_are : take listed.count listAfter ≡ heavy_hitters settings c
    items_are =
        (λ i. take (count_is i) (list_is i))
        ∙ take_at (heavy_hitters settings c) _ (length (heavy_hitters settings c)) refl
      where
        count_is : listed.count ≡ length (heavy_hitters settings c)
        count_is = lists.count ∙ rw (eq-eqb rule 0 fine)

    quantile_is : read.quantile ≡ quantile_of settings c
    quantile_is =
        let tested = coordinator_memory_refusal settings session.coordinator memory in
        reads.quantile
        ∙ rw (eq-eqb tested 0 (both_accepted tested _ fine).first_accepted)

    pub finish_listed : (out₁ out₂ : List ℕ) (p₁ p₂ p₃ total : ℕ)
        → total ≡ total_held settings session.sites.messages
        → LineWritten (listed_line (take listed.count listAfter)) 0 before out₁ p₁
        → LineWritten (end_line (class_word ++ quantile_word read.quantile)) p₁ out₁ out₂ p₂
        → LineWritten (counted_line messages_word total) p₂ out₂ after p₃
        → moved ≡ ended session no_refusal p₃
        → FinishSays session memory listBefore before listAfter after moved
    finish_listed out₁ out₂ p₁ p₂ p₃ total total_is first second third moved-is =
        let class_line = end_line (class_word ++ quantile_word read.quantile) in
        let count_line = counted_line messages_word total in
        let two = second.is ∙ ap (λ (w : Written). line_after w class_line) first.is in
        let three = third.is ∙ ap (λ (w : Written). line_after w count_line) two in
        let all : written_to p₃ after ≡ lines_after (at_start before) (result_lines_of session c) =
        three
        ∙ (λ i. lines_after (at_start before)
        (listed_line (items_are i)
        ∷ (end_line (class_word ++ quantile_word (quantile_is i))
        ∷ (counted_line messages_word (total_is i) ∷ [])))) in
        let ends = moved-is ∙ ap (λ (w : Written). ended session no_refusal w.place) all in
        record {
          is = λ site_memory log.
              (λ i. outcome (ends i) (buffers site_memory memory log (list_is i) (all i).out))
              ∙ sym (rw (eq-eqb rule 0 fine));
        }
