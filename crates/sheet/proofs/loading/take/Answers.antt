use Rattle.std.proofs.Common.{◌≡◌, length, Ok, refl, ap, ◌∙◌}
use Rattle.sheet.specs.Files.{sheet}
use Rattle.sheet.specs.Sheets.{size_of}
use Rattle.sheet.proofs.Legals.{sheet_known}
use Rattle.sheet.proofs.Loads.{sheet_whole, made_from_ok, room_for_points, room_for_edges, room_for_loops}
use Rattle.sheet.proofs.loading.take.Goals as goal

-- what is kept is the sheet that was looked at, and the tables have room for it
pub returns : goal.returns
returns c =
    let points = length c.args.points.now in
    let edges = length c.args.edges.now in
    let loops = length c.args.loops.now in
    let n = c.new-reader.ensures in
    let room = c.requires in
    let v = c.in_ok-size.ensures in
    let s = v.value.0 in
    let read : sheet c.args.file.now 0 ≡ Ok (s, _) = rw (n.file, n.at) at v.value.1 in
    let legal = sheet_known c.args.file.now 0 s _ read in
    let ls = made_from_ok _ _ _ c.in_ok-read_labels.ensures.value in
    let t = sheet_whole c.args.file.now s _ _ read (v.same ∙ n.file) ls.0 ls.1 in
    rw t
    record {
      said = ap Ok v.value.2;
      points = c.keep.ensures.points s _ read (room_for_points points edges loops room s (size_of s) refl legal.few);
      edges = c.keep.ensures.edges s _ read (room_for_edges points edges loops room s (size_of s) refl legal.corners);
      loops = c.keep.ensures.loops s _ read (room_for_loops points edges loops room s (size_of s) refl legal.loops);
    }
