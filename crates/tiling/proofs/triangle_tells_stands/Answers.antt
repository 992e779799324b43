use Rattle.tiling.proofs.Theorems.{triangle_tells}
use Rattle.tiling.proofs.triangle_tells_stands.Goals as goal

pub returns : goal.returns
returns c = triangle_tells
