-- What the program `drawtrack` writes, bytes out for bytes in (document 01's section "Worklist" and
-- instance P2).
--
--   transcript input     the messages so far, and then the results or the line `refused N`
use Rattle.std.specs.Prelude.{Bool, true, false, ◌||◌, List, [], ◌∷◌, ◌++◌, ℕ, ltb, length, Option, None, Some}
use Rattle.model.specs.declared.Settings.{Settings}
use Rattle.model.specs.declared.Message.{Message}
use Rattle.model.specs.Choice.{is_zero}
use Rattle.model.specs.Refusals.{when, ◌or_else◌, no_refusal, memory_too_short, malformed_line}
use Rattle.model.specs.Settings.{settings_refusal}
use Rattle.model.specs.Decimal.{decimal}
use Rattle.model.specs.Lines.{Fields, malformed, fields, line_feed, read_fields, settings_of, Worklist, ended, malformed_at, next, read_worklist}
use Rattle.model.specs.Reading.{heavy_hitters, quantile_of}
use Rattle.model.specs.Runs.{Run, fresh_run, run_one, line_refusal_in}

-- ---- Words and lines of the output

abbrev pub space : ℕ
space = 32

-- "refused"
abbrev pub refused_word : List ℕ
refused_word = 114 ∷ 101 ∷ 102 ∷ 117 ∷ 115 ∷ 101 ∷ 100 ∷ []

-- "listed"
abbrev pub listed_word : List ℕ
listed_word = 108 ∷ 105 ∷ 115 ∷ 116 ∷ 101 ∷ 100 ∷ []

-- "class"
abbrev pub class_word : List ℕ
class_word = 99 ∷ 108 ∷ 97 ∷ 115 ∷ 115 ∷ []

-- "none"
abbrev pub none_word : List ℕ
none_word = 110 ∷ 111 ∷ 110 ∷ 101 ∷ []

-- "messages"
abbrev pub messages_word : List ℕ
messages_word = 109 ∷ 101 ∷ 115 ∷ 115 ∷ 97 ∷ 103 ∷ 101 ∷ 115 ∷ []

-- Numbers, each with a space before it.
abbrev pub spaced : List ℕ → List ℕ
spaced [] = []
spaced (n ∷ ns) = (space ∷ decimal n) ++ spaced ns

abbrev pub end_line : List ℕ → List ℕ
end_line bytes = bytes ++ (line_feed ∷ [])

-- "messages as kind deck a b"
abbrev pub message_line : Message → List ℕ
message_line m = end_line (decimal m.kind ++ spaced (m.site ∷ m.a ∷ m.b ∷ []))

abbrev pub message_lines : List Message → List ℕ
message_lines [] = []
message_lines (m ∷ ms) = message_line m ++ message_lines ms

-- "On a refusal it writes `refused` and the number after the messages so far, and stops."
abbrev pub refused_line : ℕ → List ℕ
refused_line refusal = end_line (refused_word ++ spaced (refusal ∷ []))

-- ---- The results

-- "then the listed codes in order with a space before each, the class or `none`, and the count"
abbrev pub quantile_word : Option ℕ → List ℕ
quantile_word None = space ∷ none_word
quantile_word (Some value) = spaced (value ∷ [])

abbrev pub result_lines : Settings → Run → List ℕ
result_lines settings run =
    let coordinator = run.network.coordinator in
    end_line (listed_word ++ spaced (heavy_hitters settings coordinator))
    ++ end_line (class_word ++ quantile_word (quantile_of settings coordinator))
    ++ end_line (messages_word ++ spaced (length run.messages ∷ []))

-- ---- The whole

-- "Its memory serves k up to 4, c up to 100, u up to 1000 and a worklist up to 8192 bytes".
abbrev pub beyond_program : Settings → ℕ → Bool
beyond_program settings bytes =
    ltb 4 settings.sites
    || ltb 100 settings.capacity
    || ltb 1000 settings.universe
    || ltb 8192 bytes

abbrev pub program_refusal : Settings → List ℕ → ℕ
program_refusal settings worklist =
    settings_refusal settings
    or_else when (beyond_program settings (length worklist)) memory_too_short
    or_else no_refusal

-- "It takes each line's draw before it reads the next line": the arrivals one by one, from a run. A
-- touch is a good line and writes nothing.
abbrev pub transcript_from : Settings → Run → Worklist → List ℕ
transcript_from settings run ended = message_lines run.messages ++ result_lines settings run
transcript_from settings run (malformed_at line) =
    message_lines run.messages ++ refused_line malformed_line
transcript_from settings run (next arrival others) =
    let refusal = line_refusal_in settings run.network arrival in
    elim (is_zero refusal) [
      | true ↦ transcript_from settings (run_one settings run arrival) others
      | false ↦ message_lines run.messages ++ refused_line refusal
    ]

abbrev pub transcript_with : Settings → List ℕ → List ℕ
transcript_with settings worklist =
    let refusal = program_refusal settings worklist in
    elim (is_zero refusal) [
      | true ↦ transcript_from settings (fresh_run settings) (read_worklist worklist)
      | false ↦ refused_line refusal
    ]

-- "a line of k;e;p;q;c;u (digits as in a worklist line) and then a worklist on standard input"
abbrev pub transcript_of : Fields → List ℕ
transcript_of malformed = refused_line malformed_line
transcript_of (fields numbers worklist) = transcript_with (settings_of numbers) worklist

abbrev pub transcript : List ℕ → List ℕ
transcript input = transcript_of (read_fields 6 input)
