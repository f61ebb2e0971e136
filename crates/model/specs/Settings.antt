-- Settings, the threshold that a base gives, binary digits and the allowance.
--
--   settings_with k e p q c u    the settings with these numbers
--   settings_refusal settings    1, 2 or 3, or accepted
--   threshold_of settings base   at least 1, also at base 0
--   digits n                     0 has no digits
--   allowance settings n         the messages that demand 3 grants n arrivals
use Rattle.std.specs.Prelude.{Bool, true, false, ◌&&◌, not, ℕ, zero, suc, ◌+◌, ◌*◌, ◌/◌, max, ltb}
use Rattle.model.specs.declared.Settings.{Settings}
use Rattle.model.specs.Choice.{between, is_zero}
use Rattle.model.specs.Refusals.{when, ◌or_else◌, no_refusal, setting_out_of_range, phi_below_epsilon, too_few_counters}
use Rattle.model.specs.Limits.{most_sites, most_capacity, most_universe, allowance_factor}

-- The settings k, e, p, q, c and u, in document 01's order.
abbrev pub settings_with : ℕ → ℕ → ℕ → ℕ → ℕ → ℕ → Settings
settings_with k e p q c u = record {
  sites = k;
  epsilon = e;
  phi = p;
  rank = q;
  capacity = c;
  universe = u;
}

-- "Decks k 1 to 32. Leeway e 2 to 1000, list share p 1 to 1000, rank q 1 to 1000, all in
-- thousandths. Slots c 1 to 3000 for each deck. Code space u 1 to 65,536."
abbrev pub in_range : Settings → Bool
in_range settings =
    between 1 settings.sites most_sites
    && between 2 settings.epsilon 1000
    && between 1 settings.phi 1000
    && between 1 settings.rank 1000
    && between 1 settings.capacity most_capacity
    && between 1 settings.universe most_universe

-- The settings test, in the order 1, 2, 3.
abbrev pub settings_refusal : Settings → ℕ
settings_refusal settings =
    when (not (in_range settings)) setting_out_of_range
    or_else when (ltb settings.phi settings.epsilon) phi_below_epsilon
    or_else when (ltb (settings.capacity * settings.epsilon) 6000) too_few_counters
    or_else no_refusal

-- "the new threshold is e × base / (3000 × k) rounded down, at least 1"
abbrev pub threshold_of : Settings → ℕ → ℕ
threshold_of settings base = max 1 (settings.epsilon * base / (3000 * settings.sites))

-- "as many as the halvings, each rounded down, that bring n to 0". The first argument bounds the
-- halvings; n of them are always enough.
abbrev pub digits_within : ℕ → ℕ → ℕ
digits_within zero n = 0
digits_within (suc more) n = elim (is_zero n) [
  | true ↦ 0
  | false ↦ suc (digits_within more (n / 2))
]

abbrev pub digits : ℕ → ℕ
digits n = digits_within n n

-- "The allowance is 150,000 × k × (binary digits of n, plus 1) / e rounded down."
abbrev pub allowance : Settings → ℕ → ℕ
allowance settings n =
    allowance_factor settings * (settings.sites * (digits n + 1)) / settings.epsilon
