-- Sites started one by one are as all started together: `start-claims`.
use Prim.Native.Nat.{ℕ, ◌+◌, ◌-◌, ◌*◌, ◌<◌}
use mathlib.Core.Path.{◌≡◌, sym, ap, ◌∙◌}
use mathlib.Core.List.{List, ◌++◌, append_assoc}
use native.Mathlib.Omega.{arith}
use lib.ListN.{length, get_or-replicate, take, drop, replicate, length-replicate, replicate-append-replicate}
use lib.Seq.{take_at, drop_at}
use Rattle.model.specs.declared.Settings.{Settings}
use Rattle.model.specs.Limits.{most_sites}
use Rattle.model.specs.Held.{no_record}
use Rattle.model.specs.Site.{fresh_site}
use Rattle.model.specs.SiteMemory.{site_words, site_record}
use Rattle.model.specs.NetworkMemory.{sites_words}
use Rattle.site_start.specs.Starts.{cleared, site_cleared, StartClaims}

-- A part of zeros, behind a zeros and before c more, whatever follows.
part_of_zeros : (a w c : ℕ) (rest : List ℕ)
    → take w (drop a (replicate (a + (w + c)) 0 ++ rest)) ≡ replicate w 0
part_of_zeros a w c rest =
    let front : List ℕ = replicate a 0 in
    let part : List ℕ = replicate w 0 in
    let back : List ℕ = replicate c 0 in
    let parts : replicate (a + (w + c)) 0 ≡ front ++ (part ++ back) =
    sym (replicate-append-replicate a (w + c) 0)
    ∙ ap (λ (l : List ℕ). front ++ l) (sym (replicate-append-replicate w c 0)) in
    ap (λ (l : List ℕ). take w (drop a (l ++ rest))) parts
    ∙ ap (λ (l : List ℕ). take w (drop a l)) (append_assoc front (part ++ back) rest)
    ∙ ap (take w) (drop_at front ((part ++ back) ++ rest) a (length-replicate a 0))
    ∙ ap (take w) (append_assoc part back rest)
    ∙ take_at part (back ++ rest) w (length-replicate w 0)

part_same : (settings : Settings) (memory part : List ℕ) (which : ℕ)
    → which < settings.sites
    → take (site_words settings) (drop (which * site_words settings) (cleared settings memory))
    ≡ take (site_words settings) (site_cleared settings part)
part_same settings memory part which known =
    let w = site_words settings in
    let more = settings.sites - (which + 1) in
    let all : settings.sites ≡ which + 1 + more = omega (arith, known) in
    let spread : (which + 1 + more) * w ≡ which * w + (w + more * w) = omega arith in
    let words : sites_words settings ≡ which * w + (w + more * w) =
    ap (λ (n : ℕ). n * w) all ∙ spread in
    let rest = drop (length {A = ℕ} (replicate (sites_words settings) 0)) memory in
    ap (λ (n : ℕ). take w (drop (which * w) (replicate n 0 ++ rest))) words
    ∙ part_of_zeros (which * w) w (more * w) rest
    ∙ sym (take_at (replicate w 0) (drop (length {A = ℕ} (replicate w 0)) part) w
    (length-replicate w 0))

pub start_claims : StartClaims
start_claims = record {
  record_same = λ which known. get_or-replicate most_sites which (site_record fresh_site) no_record
      known;
  part_same = part_same;
}
