use Rattle.std.proofs.Common.{refl}
use Rattle.plane.specs.Points.{det}
use Rattle.ears.specs.Ears.{cut_by, cut_of, is_ear}
use Rattle.ears.proofs.ear_examples_stand.Goals as goal

pub returns : goal.returns
unfolding cut_by cut_of det is_ear
returns c =
    record {
      square_cut = refl;
      square_turned = refl;
      three = refl;
      straight_first = refl;
      straight_cut = refl;
      border_blocks = refl;
      border_left = refl;
      border_cut = refl;
      dented_cut = refl;
      clockwise = refl;
      in_line = refl;
      two = refl;
      slit_first = refl;
      slit_blocked = refl;
      slit_by_number = refl;
      slit_stuck = refl;
    }
