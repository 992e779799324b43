use Rattle.std.proofs.Common.{refl}
use Rattle.plane.specs.Crossings.{crossing}
use Rattle.plane.specs.Points.{along, det}
use Rattle.examples.proofs.cell_examples_stand.Goals as goal

pub returns : goal.returns
unfolding along crossing det
returns c = (
  record { middle = refl; corner = refl; seam = refl; rational = refl; below = refl; border = refl; off = refl; not_on = refl },
  record { above = refl; under = refl; on = refl; left = refl; right = refl; between = refl },
  record { inside = refl; outside = refl; turned = refl },
)
