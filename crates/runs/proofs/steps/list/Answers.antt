use Rattle.std.proofs.Common.{rules, get_or, length, map, ap, ◌∙◌}
use Rattle.std.proofs.lemmas.List.{length-map}
use Rattle.std.proofs.lemmas.List.Elements.{All-map}
use Rattle.plane.specs.Kernels.{Scaled}
use Rattle.board.specs.Histories.{told_by}
use Rattle.board.specs.Turns.{lists}
use Rattle.board.proofs.Lawful.{listed_length}
use Rattle.runs.proofs.Listing.{listed_is, listed_rest}
use Rattle.runs.proofs.steps.list.Goals as goal

pub returns-clause-step : goal.returns-clause-step
returns-clause-step g c =
    let means = g.K.Kernel.means in
    let tips = c.args.tips.now in
    let d = c.args.desk.now in
    let nodes = g.S.ReadStore.nodes c.args.store.now in
    let room = length c.args.answers.now in (
      All-map Scaled means tips (λ k d inside. g.met.K.Kernel.scaled (get_or tips k d)),
      listed_is (length tips) c.plain.result (lists d.board d.points.items d.live.items nodes (map means tips) room) c.list.new.answers c.args.answers.now
          (λ es is. listed_length d.board d.points.items d.live.items nodes (map means tips) room es is ∙ length-map tips means)
          (c.plain.ensures ∙ ap told_by c.list.ensures.said) c.list.ensures.answers,
      search rules,
    )

pub returns-clause-rest : goal.returns-clause-rest
returns-clause-rest g c =
    let means = g.K.Kernel.means in
    let tips = c.args.tips.now in
    let d = c.args.desk.now in
    let nodes = g.S.ReadStore.nodes c.args.store.now in
    let room = length c.args.answers.now in
    listed_rest (length tips) c.plain.result (lists d.board d.points.items d.live.items nodes (map means tips) room) c.list.new.answers c.args.answers.now
    (λ es is. listed_length d.board d.points.items d.live.items nodes (map means tips) room es is ∙ length-map tips means)
    (c.plain.ensures ∙ ap told_by c.list.ensures.said) c.list.ensures.answers
