-- Settings at the ends of their ranges and one past, and the order of the refusals 1, 2, 3.
use Rattle.std.specs.Prelude.{◌≡◌}
use Rattle.model.specs.Settings.{settings_with, settings_refusal}

pub record SettingsEdges : Type 0 where
  -- "Decks k 1 to 32."
  pub k_0 : settings_refusal (settings_with 0 1000 1000 500 6 10) ≡ 1
  pub k_1 : settings_refusal (settings_with 1 1000 1000 500 6 10) ≡ 0
  pub k_32 : settings_refusal (settings_with 32 1000 1000 500 6 10) ≡ 0
  pub k_33 : settings_refusal (settings_with 33 1000 1000 500 6 10) ≡ 1
  -- "Leeway e 2 to 1000"
  pub e_1 : settings_refusal (settings_with 1 1 1000 500 3000 10) ≡ 1
  pub e_2 : settings_refusal (settings_with 1 2 1000 500 3000 10) ≡ 0
  pub e_1000 : settings_refusal (settings_with 1 1000 1000 500 3000 10) ≡ 0
  pub e_1001 : settings_refusal (settings_with 1 1001 1000 500 3000 10) ≡ 1
  -- "list share p 1 to 1000"; 1 is in its range, but below every e
  pub p_0 : settings_refusal (settings_with 1 2 0 500 3000 10) ≡ 1
  pub p_1 : settings_refusal (settings_with 1 2 1 500 3000 10) ≡ 2
  pub p_2 : settings_refusal (settings_with 1 2 2 500 3000 10) ≡ 0
  pub p_1001 : settings_refusal (settings_with 1 2 1001 500 3000 10) ≡ 1
  -- "rank q 1 to 1000"
  pub q_0 : settings_refusal (settings_with 1 1000 1000 0 6 10) ≡ 1
  pub q_1 : settings_refusal (settings_with 1 1000 1000 1 6 10) ≡ 0
  pub q_1000 : settings_refusal (settings_with 1 1000 1000 1000 6 10) ≡ 0
  pub q_1001 : settings_refusal (settings_with 1 1000 1000 1001 6 10) ≡ 1
  -- "Slots c 1 to 3000"; 1 is in its range, but too few for every e
  pub c_0 : settings_refusal (settings_with 1 1000 1000 500 0 10) ≡ 1
  pub c_1 : settings_refusal (settings_with 1 1000 1000 500 1 10) ≡ 3
  pub c_3000 : settings_refusal (settings_with 1 1000 1000 500 3000 10) ≡ 0
  pub c_3001 : settings_refusal (settings_with 1 1000 1000 500 3001 10) ≡ 1
  -- "Code space u 1 to 65,536"
  pub u_0 : settings_refusal (settings_with 1 1000 1000 500 6 0) ≡ 1
  pub u_1 : settings_refusal (settings_with 1 1000 1000 500 6 1) ≡ 0
  pub u_65536 : settings_refusal (settings_with 1 1000 1000 500 6 65536) ≡ 0
  pub u_65537 : settings_refusal (settings_with 1 1000 1000 500 6 65537) ≡ 1
  -- "p < e"
  pub p_below_e : settings_refusal (settings_with 1 1000 999 500 6 10) ≡ 2
  -- "c × e < 6000"
  pub c_times_e : settings_refusal (settings_with 1 1000 1000 500 5 10) ≡ 3
  -- "Order: 1, 2, 3"
  pub one_before_two : settings_refusal (settings_with 0 1000 999 500 6 10) ≡ 1
  pub two_before_three : settings_refusal (settings_with 1 1000 999 500 5 10) ≡ 2
