use Rattle.std.proofs.Common.{refl}
use Rattle.fans.specs.Around.{around}
use Rattle.fans.specs.Fans.{fan_from}
use Rattle.fans.proofs.fan_examples_stand.Goals as goal

pub returns : goal.returns
unfolding around fan_from
returns c =
    record {
      wheel_around = refl;
      wheel_fan = refl;
      wheel_broken = refl;
      early = refl;
      early_not_whole = refl;
      never_back = refl;
      none_around = refl;
      counts_once = refl;
    }
