-- The messages that a network counts, a number for each site (request N5): "one for each deck, each
-- with the old limit, their sum with none: a message belongs to the deck it names".
--
--   none_counted                 32 zeros, as a start has them
--   count_at counts j            the count of site j; 0 past the last
--   counted_up counts messages   each message counted at the site that it names; one that names
--                                none changes nothing
--   naming j messages            how many of the messages name site j
--   counts_within k counts       none of the first k is above the limit; a missing one is 0
--   total_count settings sites   the sum of the first k
use Rattle.std.specs.Prelude.{Bool, true, ◌&&◌, List, [], ◌∷◌, ℕ, zero, suc, ◌+◌, eqb, leb, get_or, take, replicate, if◌then◌else◌}
use Rattle.model.specs.declared.Settings.{Settings}
use Rattle.model.specs.declared.Message.{Message}
use Rattle.model.specs.declared.Sites.{Sites}
use Rattle.model.specs.Limits.{most_sites, message_limit}
use Rattle.model.specs.Site.{one_more_at}
use Rattle.model.specs.SiteMemory.{sum}

-- "Started fresh, every number is 0".
abbrev pub none_counted : List ℕ
none_counted = replicate most_sites 0

abbrev pub count_at : List ℕ → ℕ → ℕ
count_at counts j = get_or counts j 0

-- "a message belongs to the deck it names": that site's count grows by one.
abbrev pub counted_up : List ℕ → List Message → List ℕ
counted_up counts [] = counts
counted_up counts (m ∷ messages) = counted_up (one_more_at counts m.site) messages

abbrev pub naming : ℕ → List Message → ℕ
naming j [] = 0
naming j (m ∷ messages) = (if eqb m.site j then 1 else 0) + naming j messages

-- "each with the old limit": those of the sites from k on are not looked at.
abbrev pub counts_within : ℕ → List ℕ → Bool
counts_within zero counts = true
counts_within (suc more) [] = true
counts_within (suc more) (count ∷ counts) = leb count message_limit && counts_within more counts

-- "The bench total is their sum".
abbrev pub total_count : Settings → Sites → ℕ
total_count settings sites = sum (take settings.sites sites.messages)
