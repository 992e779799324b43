-- The worked examples of cutting and rounds, by computation.
use Rattle.std.proofs.Common.{refl}
use Rattle.plane.specs.Points.{along, det}
use Rattle.ears.specs.Ears.{cut_by, cut_of, is_ear}
use Rattle.fans.specs.Around.{around}
use Rattle.fans.specs.Fans.{fan_from}
use Rattle.bottom.specs.Bottom.{bottom_of, cut_loops}
use Rattle.rounds.specs.Choices.{closings, look_from}
use Rattle.hierarchy.specs.Examples.{LayerExamples}

pub layer_examples : LayerExamples
unfolding along det cut_by cut_of is_ear around fan_from bottom_of cut_loops closings look_from
layer_examples =
    record {
      ten = refl;
      round_1 = refl;
      round_2 = refl;
      round_3 = refl;
      eighteen = refl;
      top = refl;
      none = refl;
      two = refl;
      plain_top = refl;
      plain_none = refl;
    }
