use Rattle.std.proofs.Common.{◌+◌, ℕ, Bool, not, rules, tests, refl, arith}
use Rattle.std.specs.List.{list_any}
use Rattle.std.proofs.lemmas.Iterator.{YieldsList-from_range}
use Rattle.std.proofs.lemmas.Iterator.Search.{find_from_yields_List}
use Rattle.rules.specs.Held.{loop_edges, starts_at}
use Rattle.rules.proofs.Positions.{find_in_range}
use Rattle.rules.proofs.corners.vertices_broken.Goals as goal

pub returns : goal.returns
returns c =
    let unused : ℕ → Bool = λ v. not (list_any (λ l. list_any (starts_at v) (loop_edges c.args.edges.now l)) c.args.loops.now) in
    find_in_range unused c.args.inner c.find.result
    (find_from_yields_List unused _ _ c.find.result c.find.ensures.ran (YieldsList-from_range 4 (4 + c.from.result) c.args.inner refl (omega arith)) (λ x b q k. search (rules, tests)))
