-- What a tip of a file means: what the kernel of its case has it mean.
use Rattle.std.specs.Prelude.{Option}
use Rattle.plane.specs.Kernels.{rational_point, whole_point}
use Rattle.plane.specs.Points.{Spot}
use Rattle.label.specs.declared.tip.Tip.{Tip}
use Rattle.label.specs.declared.tip.Tip.TheVariants.{Rational, Whole}

abbrev pub tip_point : Tip → Option Spot
tip_point (Whole t) = whole_point t
tip_point (Rational t) = rational_point t
