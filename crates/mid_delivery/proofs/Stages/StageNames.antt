-- Whom the messages of a delivery name: a site of the network, at every stage. So each message is
-- counted for one of the settings' sites (request N5).
--
--   stage_names      the messages that wait name sites below k
--   joined_names     so do those that a step hands out
use Rattle.std.specs.Prelude.{if◌then◌else◌}
use mathlib.Core.Path.{sym, subst}
use mathlib.Core.Bool.{Bool, true, false}
use mathlib.Core.List.{List, [], ◌∷◌, ◌++◌}
use Prim.Native.Nat.{ℕ, zero, suc, ◌+◌, ◌≤◌, ◌<◌}
use native.Mathlib.Omega.{arith}
use Rattle.model.specs.declared.Settings.{Settings}
use Rattle.model.specs.declared.Message.{Message}
use Rattle.model.specs.Messages.{poll, poll_answer, probe, probe_answer, announcement}
use Rattle.model.specs.Network.{Network}
use Rattle.model.proofs.Deliveries.DeliveryMessages.{announcements}
use Rattle.model.proofs.MessageCount.CountLaws.{NamesBelow, names_none, names_more, names_append, names_last}
use Rattle.mid_delivery.proofs.Stages.Stages.{Stage, reporting, polling, halving, announcing, item_waiting, count_waiting}

-- ---- The messages of each stage

item_names : {k : ℕ} (due : Bool) (site item amount : ℕ)
    → site < k
    → NamesBelow k (item_waiting due site item amount)
item_names true site item amount below = names_more _ _ below names_none
item_names false site item amount below = names_none

count_names : {k : ℕ} (due : Bool) (site amount value : ℕ)
    → site < k
    → NamesBelow k (count_waiting due site amount value)
count_names true site amount value below = names_more _ _ below names_none
count_names false site amount value below = names_none

poll_names : {k : ℕ} (answered : Bool) (j amount : ℕ)
    → j < k
    → NamesBelow k ((if answered then poll_answer j amount else poll j) ∷ [])
poll_names true j amount below = names_more _ _ below names_none
poll_names false j amount below = names_more _ _ below names_none

probe_names : {k : ℕ} (answered : Bool) (j value count : ℕ)
    → j < k
    → NamesBelow k ((if answered then probe_answer j value count else probe j value) ∷ [])
probe_names true j value count below = names_more _ _ below names_none
probe_names false j value count below = names_more _ _ below names_none

announcements_name : {k : ℕ} (threshold base j n : ℕ)
    → j + n ≤ k
    → NamesBelow k (announcements threshold base j n)
announcements_name threshold base j zero within = names_none
announcements_name {k} threshold base j (suc n) within =
    let below : (announcement j threshold base).site < k = omega arith in
    names_more (announcement j threshold base) _ below
    (announcements_name threshold base (suc j) n (omega arith))

-- ---- At every stage

pub stage_names : {settings : Settings} {network : Network} {waiting : List Message} {left : ℕ}
    → Stage settings network waiting left
    → NamesBelow settings.sites waiting
stage_names {settings} (reporting r) =
    subst (NamesBelow settings.sites) (sym r.waits)
    (names_append (item_names r.item_due r.site r.item _ r.site_known)
    (count_names r.count_due r.site _ r.value r.site_known))
stage_names {settings} (polling p) =
    subst (NamesBelow settings.sites) (sym p.waits)
    (poll_names p.answered p.j p.amount p.closing.site_known)
stage_names {settings} (halving p) =
    subst (NamesBelow settings.sites) (sym p.waits)
    (probe_names p.answered p.j _ p.count p.halving.closing.site_known)
stage_names {settings} (announcing a) =
    subst (NamesBelow settings.sites) (sym a.waits)
    (announcements_name _ _ a.i a.w (omega (arith, a.reached, a.within)))

-- What a step hands out waits last.
pub joined_names : {settings : Settings} {network : Network} {left : ℕ}
    (waiting : List Message) {handed_out : List Message}
    → Stage settings network (waiting ++ handed_out) left
    → NamesBelow settings.sites handed_out
joined_names waiting stage = names_last waiting (stage_names stage)
