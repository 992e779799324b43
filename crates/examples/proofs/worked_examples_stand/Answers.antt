use Rattle.std.proofs.Common.{refl}
use Rattle.plane.specs.Points.{along, det}
use Rattle.reader.specs.Kinds.{wording}
use Rattle.reader.specs.Reading.{several}
use Rattle.sheet.specs.Files.{contents, head, label, labels, ring, sheet}
use Rattle.sheet.specs.Wordings.{wording_said}
use Rattle.ears.specs.Ears.{cut_by, cut_of, is_ear}
use Rattle.fans.specs.Around.{around}
use Rattle.fans.specs.Fans.{fan_from}
use Rattle.bottom.specs.Bottom.{bottom_of, cut_loops}
use Rattle.rounds.specs.Choices.{closings, look_from}
use Rattle.placing.specs.Placings.{place_said}
use Rattle.walk.specs.Walks.{down_from, first_child, first_top, told_from}
use Rattle.hierarchy.proofs.Examples.{layer_examples}
use Rattle.examples.proofs.Turns.{turn_examples}
use Rattle.examples.proofs.worked_examples_stand.Goals as goal

pub returns : goal.returns
unfolding contents head label labels ring several sheet wording wording_said along det cut_by cut_of is_ear around fan_from bottom_of cut_loops closings look_from place_said down_from first_child first_top told_from
returns c =
    record {
      reading = (
        (refl, refl),
        record { whole = refl; points = refl; edges = refl; loops = refl },
        record { face = refl; plain = refl; past = refl; vertex = refl; edge = refl },
      );
      check = record { one = refl; passes = refl; turned = refl };
      layers = layer_examples;
      tips = record { face = refl; vertex = refl; seam = refl; off = refl; third_part = (_, refl) };
      turns = turn_examples;
    }
