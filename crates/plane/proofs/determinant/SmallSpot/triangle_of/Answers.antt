use Rattle.std.proofs.Common.{rules, ◌≡◌, ◌*ℤ◌, ◌-ℤ◌, neg_ℤ}
use Rattle.plane.specs.Points.{det, grid_point}
use Rattle.plane.proofs.Determinants.{triangle_sided}
use Rattle.plane.proofs.determinant.SmallSpot.triangle_of.Goals as goal

pub returns-clause-value : goal.returns-clause-value
returns-clause-value c =
    let f : c.turned-ca.result ≡ neg_ℤ (det (grid_point c.args.a) (grid_point c.args.c) c.args.self) = search rules in
    let m : c.scaled_area.result ≡ c.args.self.Z *ℤ c.twice_area.result = search rules in
    let l : c.rest.result ≡ c.scaled_area.result -ℤ c.determinant-ab.result -ℤ c.turned-ca.result = search rules in
    search (
      rules,
      triangle_sided c.args.a c.args.b c.args.c c.args.self c.determinant-ab.result c.rest.result c.turned-ca.result c.twice_area.result c.scaled_area.result
          c.determinant-ab.ensures.value f c.twice_area.ensures.value m l,
    )
