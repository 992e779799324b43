use Rattle.tiling.proofs.Theorems.{fan_covers}
use Rattle.tiling.proofs.fan_covers_stands.Goals as goal

pub returns : goal.returns
returns c = fan_covers
