-- What is printed of a tip: its numbers.
use Rattle.std.specs.Prelude.{ℕ, List, ◌++◌, codes, decimal}
use Rattle.plane.specs.declared.rational.RationalTip.{RationalTip}
use Rattle.plane.specs.declared.whole.WholeTip.{WholeTip}

abbrev pub whole_words : WholeTip → List ℕ
whole_words t = decimal t.x ++ codes " " ++ decimal t.y

abbrev pub rational_words : RationalTip → List ℕ
rational_words t = decimal t.x ++ codes " " ++ decimal t.y ++ codes " " ++ decimal t.z
