-- Document 01's limits and constants, each named once. A change request that moves one moves it
-- here. The figures on messages are functions of the settings.
use Rattle.std.specs.Prelude.{ℕ, ◌+◌, ◌*◌, ◌^◌}
use Rattle.model.specs.declared.Settings.{Settings}

-- "Decks k 1 to 32": the records that a `Sites` value holds.
abbrev pub most_sites : ℕ
most_sites = 32

-- "Slots c 1 to 3000 for each deck. Code space u 1 to 65,536."
abbrev pub most_capacity : ℕ
most_capacity = 3000

abbrev pub most_universe : ℕ
most_universe = 65536

-- "Volume classes run from 0 to 1023": the greatest value. The histogram's length stays shut, so
-- that no proof unfolds a list of 1024 places; `value_count` opens it where a number is wanted.
abbrev pub top_value : ℕ
top_value = 1023

unfoldable pub value_count : ℕ
value_count = 1024

-- Request N2: "draws of class 1 or more".
abbrev pub least_drawn : ℕ
least_drawn = 1

-- "for each slot a code, a count, an overcount and a sent number; then 1024 class counts": the most
-- numbers of a site's memory.
abbrev pub most_site_words : ℕ
most_site_words = 4 * most_capacity + (top_value + 1)

-- "A deck takes at most 1,000,000,000 draws"; also the largest amount of kinds 6 and 7 and the
-- largest threshold of a site.
abbrev pub site_limit : ℕ
site_limit = 1000000000

-- Hence all arrivals of all sites are at most these.
abbrev pub most_arrivals : ℕ
most_arrivals = most_sites * site_limit

-- "a number of the desk's memory or record, or the sum in its phase, above 100,000,000,000"
abbrev pub coordinator_limit : ℕ
coordinator_limit = 100000000000

-- "the bench's message count above 100,000,000,000,000"; request N5: each deck's
abbrev pub message_limit : ℕ
message_limit = 100000000000000

-- "1 to 7 digits each": a line's numbers are below this.
abbrev pub number_limit : ℕ
number_limit = 10 ^ 7

-- "At most 23 × k + 2 messages follow one draw": those of a close, and the draw's own.
abbrev pub closing_messages : Settings → ℕ
closing_messages settings = 23 * settings.sites

abbrev pub most_messages : Settings → ℕ
most_messages settings = closing_messages settings + 2

-- "Full delivery": no delivery takes more steps, be they messages handed over or kinds 7 asked for:
-- 23 × k + 2 messages, and the k kinds 7 of a close are asked for besides.
abbrev pub closing_steps : Settings → ℕ
closing_steps settings = 24 * settings.sites

abbrev pub most_steps : Settings → ℕ
most_steps settings = closing_steps settings + 2

-- Demand 3: "messages ≤ 25 × n", and the factor of "e × messages ≤ 150,000 × k × (digits + 1)".
abbrev pub messages_per_arrival : Settings → ℕ
messages_per_arrival settings = 25

abbrev pub allowance_factor : Settings → ℕ
allowance_factor settings = 150000

-- Firmer than demand 3's second bound, and proved beside it:
-- e × messages ≤ 39,000 × k + (33,000 + 5500 × ρ) × k × (digits - 2), where ρ is what probing costs
-- a site: "ten times", each with a kind 5 and its answer.
abbrev pub probing_messages : Settings → ℕ
probing_messages settings = 20

abbrev pub firm_messages : Settings → ℕ
firm_messages settings = 39000

abbrev pub firm_messages_per_digit : Settings → ℕ
firm_messages_per_digit settings = 33000 + 5500 * probing_messages settings
