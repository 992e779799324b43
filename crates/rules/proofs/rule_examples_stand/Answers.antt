use Rattle.std.proofs.Common.{refl}
use Rattle.plane.specs.Points.{along, det}
use Rattle.rules.proofs.rule_examples_stand.Goals as goal

pub returns : goal.returns
unfolding along det
returns c = (
  record {
    spring_whole = refl;
    small_whole = refl;
    loop_sum = refl;
    same_point = refl;
    vertex_twice = refl;
    edge_twice = refl;
    no_reverse = refl;
    vertex_unused = refl;
    edges_touch = refl;
    loop_turned = refl;
  },
  record {
    first_end = refl;
    second_end = refl;
    on_first = refl;
    on_second = refl;
    along = refl;
    from_from = refl;
    longer_first = refl;
    from_to = refl;
    to_from = refl;
    to_to = refl;
    onward = refl;
    aside = refl;
    beyond = refl;
    apart = refl;
  },
)
