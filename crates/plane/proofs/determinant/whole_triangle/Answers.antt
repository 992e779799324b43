use Rattle.std.proofs.Common.{rules}
use Rattle.plane.proofs.Determinants.{whole_triangle_sided}
use Rattle.plane.proofs.determinant.whole_triangle.Goals as goal

pub returns : goal.returns
returns c =
    search (
      rules,
      whole_triangle_sided c.args.at c.args.a c.args.b c.args.c c.whole_determinant.result c.whole_determinant-2.result c.whole_determinant-3.result
          c.whole_determinant.ensures c.whole_determinant-2.ensures c.whole_determinant-3.ensures,
    )
