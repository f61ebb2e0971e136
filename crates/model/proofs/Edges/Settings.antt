-- Settings at the edges: the rows of specs/Edges/Settings.antt, each by computation.
use mathlib.Core.Path.{refl}
use Rattle.model.specs.Edges.Settings.{SettingsEdges}

pub settings : SettingsEdges
settings = record {
  k_0 = refl;
  k_1 = refl;
  k_32 = refl;
  k_33 = refl;
  e_1 = refl;
  e_2 = refl;
  e_1000 = refl;
  e_1001 = refl;
  p_0 = refl;
  p_1 = refl;
  p_2 = refl;
  p_1001 = refl;
  q_0 = refl;
  q_1 = refl;
  q_1000 = refl;
  q_1001 = refl;
  c_0 = refl;
  c_1 = refl;
  c_3000 = refl;
  c_3001 = refl;
  u_0 = refl;
  u_1 = refl;
  u_65536 = refl;
  u_65537 = refl;
  p_below_e = refl;
  c_times_e = refl;
  one_before_two = refl;
  two_before_three = refl;
}
