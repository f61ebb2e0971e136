-- Each arm has the words that the table has for its number.
use Rattle.std.proofs.Common.{List, ℕ, sym, ap}
use Rattle.model.specs.declared.Refusal.{Refusal}
use Rattle.model.specs.Refusals.{number_of}
use Rattle.output_words.specs.Words.{words_of}
use Rattle.output_words.proofs.words.Goals as goal

-- The words of a refusal.
abbrev own : Refusal → List ℕ
own refusal = words_of (number_of refusal)

pub returns-in-SettingOutOfRange : goal.returns-in-SettingOutOfRange
returns-in-SettingOutOfRange c = sym (ap own c.in-SettingOutOfRange.is)

pub returns-in-PhiBelowEpsilon : goal.returns-in-PhiBelowEpsilon
returns-in-PhiBelowEpsilon c = sym (ap own c.in-PhiBelowEpsilon.is)

pub returns-in-TooFewCounters : goal.returns-in-TooFewCounters
returns-in-TooFewCounters c = sym (ap own c.in-TooFewCounters.is)

pub returns-in-MemoryTooShort : goal.returns-in-MemoryTooShort
returns-in-MemoryTooShort c = sym (ap own c.in-MemoryTooShort.is)

pub returns-in-UnknownSite : goal.returns-in-UnknownSite
returns-in-UnknownSite c = sym (ap own c.in-UnknownSite.is)

pub returns-in-UnknownItem : goal.returns-in-UnknownItem
returns-in-UnknownItem c = sym (ap own c.in-UnknownItem.is)

pub returns-in-ValueTooLarge : goal.returns-in-ValueTooLarge
returns-in-ValueTooLarge c = sym (ap own c.in-ValueTooLarge.is)

pub returns-in-SiteFull : goal.returns-in-SiteFull
returns-in-SiteFull c = sym (ap own c.in-SiteFull.is)

pub returns-in-MessageNotDue : goal.returns-in-MessageNotDue
returns-in-MessageNotDue c = sym (ap own c.in-MessageNotDue.is)

pub returns-in-AmountNotDue : goal.returns-in-AmountNotDue
returns-in-AmountNotDue c = sym (ap own c.in-AmountNotDue.is)

pub returns-in-MemoryInconsistent : goal.returns-in-MemoryInconsistent
returns-in-MemoryInconsistent c = sym (ap own c.in-MemoryInconsistent.is)

pub returns-in-ListTooShort : goal.returns-in-ListTooShort
returns-in-ListTooShort c = sym (ap own c.in-ListTooShort.is)

pub returns-in-MalformedLine : goal.returns-in-MalformedLine
returns-in-MalformedLine c = sym (ap own c.in-MalformedLine.is)

pub returns-in-LogTooShort : goal.returns-in-LogTooShort
returns-in-LogTooShort c = sym (ap own c.in-LogTooShort.is)

pub returns-in-FileUnreadable : goal.returns-in-FileUnreadable
returns-in-FileUnreadable c = sym (ap own c.in-FileUnreadable.is)

pub returns-in-ChecksumWrong : goal.returns-in-ChecksumWrong
returns-in-ChecksumWrong c = sym (ap own c.in-ChecksumWrong.is)
