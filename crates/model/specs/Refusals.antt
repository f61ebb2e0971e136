-- Why a call is refused: the rows of document 01's table "Refused" by name, and the order of tests.
--
--   when test refusal     the refusal where the test holds, else accepted
--   first or_else later    the first refusal where there is one, else the later
--
-- A chain `when .. or_else when .. or_else accepted` is an ordered list of tests with their
-- numbers.
use Rattle.std.specs.Prelude.{Bool, true, false, ℕ, zero, suc, Result, Ok, Err, MatchResult, ◌≡◌, ◌<◌, ◌⊎◌}
use Rattle.model.specs.declared.Refusal.{Refusal}
use Rattle.model.specs.declared.UnknownRefusal.{UnknownRefusal}
use Rattle.model.specs.declared.Refusal.TheVariants.{SettingOutOfRange, PhiBelowEpsilon, TooFewCounters, MemoryTooShort, UnknownSite, UnknownItem, ValueTooLarge, SiteFull, MessageNotDue, AmountNotDue, MemoryInconsistent, ListTooShort, MalformedLine, LogTooShort, FileUnreadable, ChecksumWrong}

infixr 15 ◌or_else◌
abbrev pub when : Bool → ℕ → ℕ
when true refusal = refusal
when false refusal = 0

abbrev pub ◌or_else◌ : ℕ → ℕ → ℕ
zero or_else later = later
suc refusal or_else later = suc refusal

abbrev pub no_refusal : ℕ
no_refusal = 0

-- "setting outside its range"
abbrev pub setting_out_of_range : ℕ
setting_out_of_range = 1

-- "p < e"
abbrev pub phi_below_epsilon : ℕ
phi_below_epsilon = 2

-- "c × e < 6000"
abbrev pub too_few_counters : ℕ
too_few_counters = 3

-- "lent memory shorter than above"
abbrev pub memory_too_short : ℕ
memory_too_short = 4

-- "deck ≥ k"
abbrev pub unknown_site : ℕ
unknown_site = 5

-- "code ≥ u"
abbrev pub unknown_item : ℕ
unknown_item = 6

-- "class > 1023"
abbrev pub value_too_large : ℕ
value_too_large = 7

-- "deck full"
abbrev pub site_full : ℕ
site_full = 8

-- "message kind unknown, or not due in this phase or from this deck"
abbrev pub message_not_due : ℕ
message_not_due = 9

-- "amount not due"
abbrev pub amount_not_due : ℕ
amount_not_due = 10

-- "memory inconsistent"
abbrev pub memory_inconsistent : ℕ
memory_inconsistent = 11

-- "list has fewer places than codes listed"
abbrev pub list_too_short : ℕ
list_too_short = 12

-- "malformed line"
abbrev pub malformed_line : ℕ
malformed_line = 13

-- "log lacks 23 × k + 2 free records before a draw"
abbrev pub log_too_short : ℕ
log_too_short = 14

-- Request N3: "15 when the file is too short .. or the width is unknown", and where it is not laid
-- out as its settings say
abbrev pub file_unreadable : ℕ
file_unreadable = 15

-- Request N3: "16 .. when the sum differs"
abbrev pub checksum_wrong : ℕ
checksum_wrong = 16

-- The number of a refusal: "refused by its own number".
abbrev pub number_of : Refusal → ℕ
number_of SettingOutOfRange = setting_out_of_range
number_of PhiBelowEpsilon = phi_below_epsilon
number_of TooFewCounters = too_few_counters
number_of MemoryTooShort = memory_too_short
number_of UnknownSite = unknown_site
number_of UnknownItem = unknown_item
number_of ValueTooLarge = value_too_large
number_of SiteFull = site_full
number_of MessageNotDue = message_not_due
number_of AmountNotDue = amount_not_due
number_of MemoryInconsistent = memory_inconsistent
number_of ListTooShort = list_too_short
number_of MalformedLine = malformed_line
number_of LogTooShort = log_too_short
number_of FileUnreadable = file_unreadable
number_of ChecksumWrong = checksum_wrong

-- What a call comes to, as a number: that of its refusal, or 0 where it accepts.
abbrev pub refusal_told : {A : Type 0} → Result A Refusal → ℕ
refusal_told (Ok _) = no_refusal
refusal_told (Err refusal) = number_of refusal

-- The answer is the refusal with this number, or says that no refusal has it.
abbrev pub NumberNames : ℕ → Result Refusal UnknownRefusal → Type 0
NumberNames number answer = MatchResult answer (λ refusal. number_of refusal ≡ number)
    (λ unknown. (unknown.0 ≡ number) × ((number ≡ no_refusal) ⊎ (checksum_wrong < number)))
