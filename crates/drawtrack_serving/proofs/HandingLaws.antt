-- The pieces of a session, handed out one after the other.
--
--   handing_begins, handing_on     the first piece, and the next one
--   handed_out                     all of them are the transcript
use Rattle.std.proofs.Common.{◌≡◌, refl, sym, ap, ◌∙◌, subst, Bool, true, false, List, [], ◌++◌, ℕ, take, drop, append-nil, append_assoc, take-append-drop}
use Rattle.std.proofs.lemmas.Bool.{false≢true}
use Rattle.std.proofs.KnownBytes.{Appends-nil, Appends-trans}
use Rattle.std.specs.declared.option.Option.{Option}
use Rattle.std.specs.Io.KnownBytes.{Appends}
use Rattle.model.specs.Transcript.{transcript}
use Rattle.descriptors.specs.Descriptors.{WriteAllGives}
use Rattle.drawtrack_course.specs.Ending.{Front}
use Rattle.drawtrack_steps.specs.declared.Session.{Session}
use Rattle.drawtrack_turns.specs.declared.Stopped.{Stopped}
use Rattle.drawtrack_turns.specs.Serving.{stopped_of, AllTaken}
use Rattle.drawtrack_serving.specs.Handing.{Handing, HandedOut}

module _ (old mid new : Option (List ℕ)) (bytes piece bytes-then : List ℕ) (taken : Bool)
    (is : bytes-then ≡ bytes ++ piece) (before : Handing old mid bytes true)
    (gives : WriteAllGives mid new piece taken) where
  held : Appends old mid bytes
  held = subst (Appends old mid) (before.whole refl) before.appends

  by_taken : (all : Bool) → taken ≡ all → Handing old new bytes-then taken
  by_taken true all = record {
    handed = bytes ++ piece;
    appends = Appends-trans old mid new bytes piece held (gives.whole all);
    front = record { rest = []; is = is ∙ sym (append-nil (bytes ++ piece)) };
    whole = λ _. sym is;
  }
  by_taken false lost =
      let first = take gives.count piece in
      let rest = drop gives.count piece in
      record {
        handed = bytes ++ first;
        appends = Appends-trans old mid new bytes first held gives.front;
        front = record {
          rest = rest;
          is =
              is
              ∙ ap (λ (l : List ℕ). bytes ++ l) (sym (take-append-drop gives.count piece))
              ∙ sym (append_assoc bytes first rest);
        };
        whole = λ all. absurd (false≢true (sym lost ∙ all));
      }

  pub handing_on : Handing old new bytes-then taken
  handing_on = by_taken taken refl

nothing_yet : (old : Option (List ℕ)) → Handing old old [] true
nothing_yet old = record {
  handed = [];
  appends = Appends-nil old;
  front = record { rest = []; is = refl };
  whole = λ _. refl;
}

pub handing_begins : (old new : Option (List ℕ)) (piece bytes : List ℕ) (taken : Bool)
    → bytes ≡ piece
    → WriteAllGives old new piece taken
    → Handing old new bytes taken
handing_begins old new piece bytes taken is gives =
    handing_on old old new [] piece bytes taken is (nothing_yet old) gives

pub handed_out : (input : List ℕ) (old new : Option (List ℕ)) (bytes : List ℕ) (session : Session)
    (turns : ℕ) (taken : Bool) (answer : Stopped)
    → answer ≡ stopped_of taken session turns
    → Handing old new bytes taken
    → Front bytes (transcript input)
    → (taken ≡ true → AllTaken input bytes session (stopped_of true session turns))
    → HandedOut input old new answer
handed_out input old new bytes session turns taken answer is handing front all =
    let same : answer.taken ≡ taken = ap (λ (a : Stopped). a.taken) is in
    record {
      handed = handing.handed;
      appends = handing.appends;
      front = record {
        rest = handing.front.rest ++ front.rest;
        is =
            front.is
            ∙ ap (λ (l : List ℕ). l ++ front.rest) handing.front.is
            ∙ append_assoc handing.handed handing.front.rest front.rest;
      };
      whole = λ every.
          let so = sym same ∙ every in
          handing.whole so ∙ (all so).bytes_are;
      first_bytes = λ every whole first.
          let so = sym same ∙ every in
          handing.whole so ∙ (all so).first_bytes whole first;
    }
