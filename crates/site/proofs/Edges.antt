-- The chains of the calls on sites at the edge: each row by computation.
use mathlib.Core.Path.{refl}
use Rattle.model.specs.Limits.{value_count}
use Rattle.model.specs.Draws.{is_taken}
use Rattle.site.specs.Edges.{SiteCallEdges}

pub site_call_edges : SiteCallEdges
unfolding value_count is_taken
site_call_edges = record {
  draw_accepted = refl;
  draw_unknown_site = refl;
  draw_four_before_eleven = refl;
  draw_eleven_before_five = refl;
  touch_accepted = refl;
  touch_unknown_site = refl;
  touch_four_before_eleven = refl;
  touch_eleven_before_five = refl;
  touch_not_taken = refl;
  class_1_taken = refl;
  refused_not_taken = refl;
  message_accepted = refl;
  message_own_number = refl;
  message_four_before_eleven = refl;
  message_eleven_before_five = refl;
  message_five_before_nine = refl;
}
