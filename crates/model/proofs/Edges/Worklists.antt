-- Lines and transcripts at the edges: the rows of specs/Edges/Worklists.antt, each by computation.
use mathlib.Core.Path.{refl}
use Rattle.model.specs.Limits.{value_count}
use Rattle.model.specs.Draws.{is_taken}
use Rattle.model.specs.Decimal.{decimal}
use Rattle.model.specs.Edges.Worklists.{LineEdges, ProgramEdges}

pub lines : LineEdges
unfolding value_count decimal is_taken
lines = record {
  p2 = refl;
  zero_itself = refl;
  nine = refl;
  four_digits = refl;
  seven_digits = refl;
  eight_digits = refl;
  no_digit = refl;
  leading_zero = refl;
  leading_zeros = refl;
  no_line_feed = refl;
  slash = refl;
  colon = refl;
  blank = refl;
  carriage_return = refl;
  four_fields = refl;
  nothing = refl;
  no_line = refl;
  zero_last = refl;
  settings_fields = refl;
  settings_missing = refl;
  followed = refl;
  empty_file = refl;
  one_line = refl;
  first_malformed = refl;
  second_malformed = refl;
  empty_line = refl;
}

pub program : ProgramEdges
unfolding value_count decimal is_taken
program = record {
  k_4 = refl;
  k_5 = refl;
  c_100 = refl;
  c_101 = refl;
  u_1000 = refl;
  u_1001 = refl;
  bytes_8192 = refl;
  bytes_8193 = refl;
  three_before_four = refl;
  thirteen_first = refl;
  one_refused = refl;
  two_before_four = refl;
  four_before_draws = refl;
  four_before_lines = refl;
  no_draws = refl;
  refused_draw = refl;
  malformed_line = refl;
  draw_first = refl;
}
