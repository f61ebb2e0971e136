-- Limits and constants at the edges: the rows of specs/Edges/Constants.antt, each by computation.
use mathlib.Core.Path.{refl}
use Rattle.model.specs.Limits.{value_count}
use Rattle.model.specs.Draws.{is_taken}
use Rattle.model.specs.Edges.Constants.{ConstantEdges}

pub constants : ConstantEdges
unfolding value_count is_taken
constants = record {
  most_sites_lem = refl;
  top_value_lem = refl;
  value_count_lem = refl;
  site_limit_lem = refl;
  coordinator_limit_lem = refl;
  message_limit_lem = refl;
  estimate_limit_lem = refl;
  value_count_limit_lem = refl;
  messages_per_arrival_lem = λ _. refl;
  allowance_factor_lem = λ _. refl;
  allowance_two_sites = refl;
  allowance_rounded = refl;
  firm_messages_lem = λ _. refl;
  firm_messages_digit = λ _. refl;
  digits_0 = refl;
  digits_1 = refl;
  digits_7 = refl;
  digits_8 = refl;
  threshold_0 = refl;
  threshold_119 = refl;
  threshold_179 = refl;
  threshold_million = refl;
  list_too_short_lem = refl;
  no_message_lem = refl;
  most_messages_1 = refl;
  most_messages_2 = refl;
  reached_1 = refl;
  reached_2 = refl;
  most_steps_1 = refl;
  most_steps_2 = refl;
  fuel_1 = refl;
  steps_25 = refl;
  steps_26 = refl;
  steps_26_idle = refl;
  steps_49 = refl;
  steps_50 = refl;
  messages_29 = refl;
  two_sites_first = refl;
  two_sites_close = refl;
  site_seventh = refl;
  coordinator_seventh = refl;
  coordinator_signalled = refl;
  two_sites_pending = refl;
  two_sites_base = refl;
}
