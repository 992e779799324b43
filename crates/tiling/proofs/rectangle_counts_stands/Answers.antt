use Rattle.tiling.proofs.Rectangles.{rectangle_counts}
use Rattle.tiling.proofs.rectangle_counts_stands.Goals as goal

pub returns : goal.returns
returns c = rectangle_counts
