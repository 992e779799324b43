use Rattle.std.proofs.Common.{Err, ap, arith, length, refl, subst, sym, take, ◌∙◌}
use Rattle.std.proofs.lemmas.List.{length-take}
use Rattle.fans.specs.Around.{live_said}
use Rattle.rounds.specs.Near.{held_of}
use Rattle.rounds.specs.Rounds.{RoundLive, round_count, round_nodes}
use Rattle.rounds.proofs.Right.{right_few, right_told}
use Rattle.rounds.proofs.Taken.{right_broken, right_taken}
use Rattle.rounds.proofs.taking.round_within.Goals as goal

pub hold-requires : goal.hold-requires
hold-requires g c =
    let n = ap length c.live_numbers-numbers.ensures in
    let few = right_few c.args.size c.args.points.now (g.S.ReadStore.nodes c.args.store.now) (take c.args.count c.args.live.now) c.requires.right in
    let long = c.requires.table in
    omega arith

pub choose-requires-clause-live : goal.choose-requires-clause-live
choose-requires-clause-live g c =
    ap (live_said (g.S.ReadStore.nodes c.args.store.now)) c.live_numbers-numbers.ensures
    ∙ right_told c.args.size c.args.points.now (g.S.ReadStore.nodes c.args.store.now) (take c.args.count c.args.live.now) c.requires.right

pub returns-in-Ok-clause-said : goal.returns-in-Ok-clause-said
returns-in-Ok-clause-said g c =
    c.take_out.ensures.said
    ∙ sym (ap round_count
    (right_taken c.args.size c.args.points.now _ _ c.args.rounds _ _ _ _ (right_told c.args.size c.args.points.now _ _ c.requires.right) (c.hold.ensures ∙ ap (held_of _) c.live_numbers-numbers.ensures)
    c.requires.marks _ _ c.choose.auto.marks c.in-Ok.ensures.looked))

pub returns-in-Ok-clause-nodes : goal.returns-in-Ok-clause-nodes
returns-in-Ok-clause-nodes g c =
    c.take_out.ensures.nodes
    ∙ sym (ap (λ s. round_nodes s (g.S.ReadStore.nodes c.args.store.now))
    (right_taken c.args.size c.args.points.now _ _ c.args.rounds _ _ _ _ (right_told c.args.size c.args.points.now _ _ c.requires.right) (c.hold.ensures ∙ ap (held_of _) c.live_numbers-numbers.ensures)
    c.requires.marks _ _ c.choose.auto.marks c.in-Ok.ensures.looked))

pub returns-in-Ok-clause-live : goal.returns-in-Ok-clause-live
returns-in-Ok-clause-live g c =
    subst (λ s. RoundLive s c.args.live.now c.take_out.new.live)
    (sym (right_taken c.args.size c.args.points.now _ _ c.args.rounds _ _ _ _ (right_told c.args.size c.args.points.now _ _ c.requires.right) (c.hold.ensures ∙ ap (held_of _) c.live_numbers-numbers.ensures)
    c.requires.marks _ _ c.choose.auto.marks c.in-Ok.ensures.looked))
    c.take_out.ensures.live

pub returns-in-Err-clause-said : goal.returns-in-Err-clause-said
returns-in-Err-clause-said g c =
    ap Err c.new.ensures
    ∙ sym (ap round_count
    (right_broken c.args.size c.args.points.now _ _ c.args.rounds _ _ _ _ (right_told c.args.size c.args.points.now _ _ c.requires.right) (c.hold.ensures ∙ ap (held_of _) c.live_numbers-numbers.ensures)
    c.requires.marks _ c.in-Err.ensures.looked))

pub returns-in-Err-clause-nodes : goal.returns-in-Err-clause-nodes
returns-in-Err-clause-nodes g c =
    sym (ap (λ s. round_nodes s (g.S.ReadStore.nodes c.args.store.now))
    (right_broken c.args.size c.args.points.now _ _ c.args.rounds _ _ _ _ (right_told c.args.size c.args.points.now _ _ c.requires.right) (c.hold.ensures ∙ ap (held_of _) c.live_numbers-numbers.ensures)
    c.requires.marks _ c.in-Err.ensures.looked))

pub returns-in-Err-clause-live : goal.returns-in-Err-clause-live
returns-in-Err-clause-live g c =
    subst (λ s. RoundLive s c.args.live.now c.args.live.now)
    (sym (right_broken c.args.size c.args.points.now _ _ c.args.rounds _ _ _ _ (right_told c.args.size c.args.points.now _ _ c.requires.right) (c.hold.ensures ∙ ap (held_of _) c.live_numbers-numbers.ensures)
    c.requires.marks _ c.in-Err.ensures.looked))
    refl
