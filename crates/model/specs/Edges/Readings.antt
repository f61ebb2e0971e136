-- Reading the coordinator: how long a list gets, the margin above, at and below 0, and the class.
use Rattle.std.specs.Prelude.{◌≡◌, false, List, [], ◌∷◌, ◌++◌, pos, negsuc, None, Some}
use Rattle.model.specs.declared.Settings.{Settings}
use Rattle.model.specs.declared.Arrival.{Arrival}
use Rattle.model.specs.declared.Phase.TheVariants.{Idle}
use Rattle.model.specs.Settings.{settings_with}
use Rattle.model.specs.Reading.{is_listed, heavy_hitters, most_listed, margin, quantile_of}
use Rattle.model.specs.Instances.{settings_a, settings_p6, arrival_with, draws, coordinator_after}
use Rattle.model.specs.Edges.Inputs.{settings_two, draw_at, of_item, coordinator_at}

-- "1;800;800;500;8;10", and 36 draws, twelve of each of three codes.
abbrev pub settings800 : Settings
settings800 = settings_with 1 800 800 500 8 10

abbrev pub thirty_six : List Arrival
thirty_six =
    of_item 0 7 ++ of_item 1 1 ++ of_item 0 3 ++ of_item 1 1 ++ of_item 0 2 ++ of_item 1 1
    ++ of_item 2 4 ++ of_item 1 9 ++ of_item 2 8

-- Settings A with e 999: the list rule asks 2000 × a code's number ≥ 1001 × total.
abbrev pub settings999 : Settings
settings999 = settings_with 1 999 1000 500 7 10

-- Two sites: a close after two draws of code 7, and one more draw of code 8; total 3, base 2.
abbrev pub since_close : List Arrival
since_close = arrival_with 0 7 3 ∷ arrival_with 1 7 9 ∷ arrival_with 0 8 20 ∷ []

-- A draw each of the codes 7 and 8.
abbrev pub two_codes : List Arrival
two_codes = arrival_with 0 7 3 ∷ arrival_with 0 8 3 ∷ []

pub record ReadingEdges : Type 0 where
  -- three codes with a third of the draws each, at p 800: more than 2000 / (2p - e)
  pub three_listed : heavy_hitters settings800 (coordinator_after settings800 thirty_six)
      ≡ 0 ∷ 1 ∷ 2 ∷ []
  -- 6,000,000 / ((2p - e) × (3000 - e)) rounded down, or u if that is less
  pub most_800 : most_listed settings800 ≡ 3
  pub most_A : most_listed settings_a ≡ 3
  pub most_of_all : most_listed (settings_with 1 2 2 500 3000 65536) ≡ 1000
  pub most_of_ten : most_listed (settings_with 1 2 2 500 3000 10) ≡ 10
  pub most_one : most_listed (settings_with 1 2 1000 500 3000 10) ≡ 1
  -- "2000 × its number ≥ (2p - e) × total": 2000 on both sides, margin 0, listed
  pub both_listed : heavy_hitters settings_a (coordinator_after settings_a two_codes) ≡ 7 ∷ 8 ∷ []
  pub margin_0 : margin settings_a (coordinator_after settings_a two_codes) 7 ≡ pos 0
  -- 2000 against 2002: margin -2, not listed; 2000 against 1001: 999
  pub none_listed : heavy_hitters settings999 (coordinator_after settings999 two_codes) ≡ []
  pub margin_below : margin settings999 (coordinator_after settings999 two_codes) 7 ≡ negsuc 1
  pub margin_above : margin settings999 (coordinator_after settings999 (draws 1)) 7 ≡ pos 999
  -- "if total ≥ 1": at total 0 both sides are 0, and nothing is listed
  pub listed_at_0 : is_listed settings_a (coordinator_after settings_a []) 7 ≡ false
  pub margin_at_0 : margin settings_a (coordinator_after settings_a []) 7 ≡ pos 0
  -- the total, not the base, is what list and class go by: before the first close, and after one
  pub listed_first : heavy_hitters settings_two (coordinator_after settings_two (draw_at 0 ∷ []))
      ≡ 7 ∷ []
  pub class_first : quantile_of settings_two (coordinator_after settings_two (draw_at 0 ∷ [])) ≡
      Some 3
  pub listed_since : heavy_hitters settings_two (coordinator_after settings_two since_close) ≡ 7 ∷
      []
  pub margin_since : margin settings_two (coordinator_after settings_two since_close) 8 ≡ negsuc 999
  pub class_since : quantile_of settings_two (coordinator_after settings_two since_close) ≡ Some 9
  -- "later the record's class, which is set when a halving ends"
  pub later_class : quantile_of settings_a (coordinator_after settings_a (draws 6)) ≡ Some 3
  pub later_record : quantile_of settings_p6 (coordinator_at 2 Idle) ≡ Some 0
  pub none_at_0 : quantile_of settings_p6 (coordinator_at 1 Idle) ≡ None
  -- class 1, and class 1023
  pub class_1 : quantile_of settings_a (coordinator_after settings_a (arrival_with 0 7 1 ∷ [])) ≡
      Some 1
  pub class_1023 :
      quantile_of settings_a (coordinator_after settings_a (arrival_with 0 7 1023 ∷ [])) ≡ Some
      1023
