-- `bench_memory::sites_consistent` meets its contract: the site looked at is tested by its own part
-- of the memory.
use mathlib.Core.Path.{◌≡◌, sym, ap, ◌∙◌}
use mathlib.Core.Bool.{Bool}
use mathlib.Core.List.{List}
use Prim.Native.Nat.{ℕ, ◌*◌, ◌<◌}
use lib.ListN.{drop}
use Rattle.model.specs.declared.Settings.{Settings}
use Rattle.model.specs.declared.SiteRecord.{SiteRecord}
use Rattle.model.specs.SiteMemory.{site_words, site_consistent}
use Rattle.bench_memory.specs.Promises.{SitesFit}
use Rattle.bench_memory.proofs.PartLaws.{own_is}
use Rattle.bench_memory.proofs.SitesLaws.{passing_on, passing_fails}
use Rattle.site_memory.proofs.SitePart.{part}
use Rattle.bench_memory.proofs.sites_consistent.Goals as goal

-- Site j, tested by the part that starts where the code counts it.
own_decides : {settings : Settings} {memory : List ℕ} (fits : SitesFit settings memory) (j : ℕ)
    → j < settings.sites
    → (words : ℕ)
    → words ≡ site_words settings
    → (own : SiteRecord) {answer : Bool}
    → answer ≡ site_consistent settings own (part memory j words)
    → site_consistent settings own (drop (j * site_words settings) memory) ≡ answer
own_decides {settings} fits j known words words_are own is =
    ap (site_consistent settings own) (sym (own_is fits j known words words_are)) ∙ sym is

pub returns-then-not-site_consistent : goal.returns-then-not-site_consistent
returns-then-not-site_consistent c =
    let a = c.args in
    passing_fails a.settings.sites a.settings a.sites.records a.memory.now
    c.loop-j.j c.loop-j.invariant c.loop-j-test.true
    (own_decides c.requires c.loop-j.j c.loop-j-test.true _ c.site_words-words.ensures _
    c.site_consistent.ensures ∙ c.if-not-site_consistent.true)

pub loop-j-preserved : goal.loop-j-preserved
loop-j-preserved c =
    let a = c.args in
    passing_on a.settings.sites a.settings a.sites.records a.memory.now
    c.loop-j.j c.loop-j.invariant c.loop-j-test.true
    (own_decides c.requires c.loop-j.j c.loop-j-test.true _ c.site_words-words.ensures _
    c.site_consistent.ensures ∙ c.if-not-site_consistent.false)
