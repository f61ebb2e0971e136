-- What the run hands out in memory.
--
--   memory_says      what the run makes of an input, and a copy of it
--   memory_failed    the lent memory was too short
use Rattle.std.proofs.Common.{◌≡◌, refl, ◌∙◌, List, ℕ, take, Some}
use Rattle.drawtrack_response.specs.Responding.{status_failed}
use Rattle.drawtrack_run.specs.Running.{RunGives}
use Rattle.drawtrack_run_c.specs.Memory.{MemorySays}

pub memory_says : (input old held bytes : List ℕ) (length status : ℕ)
    → RunGives input (Some (take 0 old)) (Some (take length held)) status
    → take length bytes ≡ take length held
    → MemorySays input bytes length status
memory_says input old held bytes length status gives same = record {
  transcript_is = λ fine. same ∙ gives.transcript_is fine;
  status_is = gives.status_is;
}

pub memory_failed : (input bytes : List ℕ) (length : ℕ)
    → MemorySays input bytes length status_failed
memory_failed input bytes length = record {
  transcript_is = λ fine. absurd (fine refl);
  status_is = λ fine. absurd (fine refl);
}
