use Rattle.std.proofs.Common.{rules}
use Rattle.lent.proofs.Puts.{over_from_puts}
use Rattle.sheet.specs.Sheets.{edges_of, loops_of, points_of}
use Rattle.sheet.proofs.Told.{ends_as, reads_known}
use Rattle.sheet.proofs.loading.keep.Goals as goal

pub returns : goal.returns
returns c =
    let n = c.new-reader.ensures in
    let r = c.read_sheet.ensures.read in
    let new = c.read_sheet.new in
    record {
      points = λ s at e h.
          let k = reads_known c.read_sheet.result _ _ _ s at (rw (n.file, n.at) e) r.value in
          ends_as _ new.points.items.now _ (over_from_puts _ _ c.args.points.now (points_of s) k.1.1 c.over-points.ensures.kept h) (search rules);
      edges = λ s at e h.
          let k = reads_known c.read_sheet.result _ _ _ s at (rw (n.file, n.at) e) r.value in
          ends_as _ new.edges.items.now _ (over_from_puts _ _ c.args.edges.now (edges_of s) k.1.2 c.over-edges.ensures.kept h) (search rules);
      loops = λ s at e h.
          let k = reads_known c.read_sheet.result _ _ _ s at (rw (n.file, n.at) e) r.value in
          ends_as _ new.loops.items.now _ (over_from_puts _ _ c.args.loops.now (loops_of s) k.1.3 c.over-loops.ensures.kept h) (search rules);
    }
