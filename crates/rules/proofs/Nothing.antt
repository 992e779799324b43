-- A sheet that breaks no rule keeps each of them.
use Rattle.std.proofs.Common.{◌≡◌, ℕ, Option, Some, None, refl}
use Rattle.std.specs.Option.{option_map}
use Rattle.clash.specs.Clashes.{IsFree, first_clash_in}
use Rattle.clash.proofs.Firsts.{IsFree-from_None}
use Rattle.refusal.specs.declared.Cause.{Cause}
use Rattle.refusal.specs.declared.Cause.TheVariants.{LoopSum, SamePoint, VertexTwice, EdgeTwice, NoReverse, VertexUnused, EdgesTouch, LoopTurned}
use Rattle.refusal.specs.declared.Refusal.{Refusal}
use Rattle.sheet.specs.Sheets.{Sheet, edges_of, points_of}
use Rattle.rules.specs.Rules.{edges_broken, first_broken, loops_broken, or_else, points_broken, reverses_broken, strokes_broken, sum_broken, told, turns_broken, vertices_broken}
use Rattle.plane.specs.Edges.{same_edge}
use Rattle.plane.specs.Points.{same_point}

-- what an answer of nothing tells of what it was made from
pub neither : (a b : Option Refusal) → or_else a b ≡ None → (a ≡ None) × (b ≡ None)
neither None b h = (refl, h)
neither (Some e) b h = cc

pub nothing_made : {X Y : Type 0} (f : X → Y) (o : Option X) → option_map f o ≡ None → o ≡ None
nothing_made f None h = refl
nothing_made f (Some x) h = cc

pub untold : (cause : Cause) (o : Option ℕ) → told cause o ≡ None → o ≡ None
untold cause None h = refl
untold cause (Some n) h = cc

-- each rule is kept
pub record Kept (s : Sheet) : Type 0 where
  pub sum : sum_broken s ≡ None
  pub points : points_broken s ≡ None
  pub loops : loops_broken s ≡ None
  pub edges : edges_broken s ≡ None
  pub reverses : reverses_broken s ≡ None
  pub vertices : vertices_broken s ≡ None
  pub strokes : strokes_broken s ≡ None
  pub turns : turns_broken s ≡ None

pub kept : (s : Sheet) → first_broken s ≡ None → Kept s
kept s h =
    let a = neither (told LoopSum (sum_broken s)) _ h in
    let b = neither (told SamePoint (points_broken s)) _ a.1 in
    let c = neither (told VertexTwice (loops_broken s)) _ b.1 in
    let d = neither (told EdgeTwice (edges_broken s)) _ c.1 in
    let e = neither (told NoReverse (reverses_broken s)) _ d.1 in
    let f = neither (told VertexUnused (vertices_broken s)) _ e.1 in
    let g = neither (told EdgesTouch (strokes_broken s)) (told LoopTurned (turns_broken s)) f.1 in
    record {
      sum = untold LoopSum (sum_broken s) a.0;
      points = untold SamePoint (points_broken s) b.0;
      loops = untold VertexTwice (loops_broken s) c.0;
      edges = untold EdgeTwice (edges_broken s) d.0;
      reverses = untold NoReverse (reverses_broken s) e.0;
      vertices = untold VertexUnused (vertices_broken s) f.0;
      strokes = untold EdgesTouch (strokes_broken s) g.0;
      turns = untold LoopTurned (turns_broken s) g.1;
    }

-- no two vertices, and no two edges, are the same
pub points_free : (s : Sheet) → Kept s → IsFree same_point (points_of s)
points_free s k = IsFree-from_None same_point (points_of s) (nothing_made _ (first_clash_in same_point (points_of s)) k.points)

pub edges_free : (s : Sheet) → edges_broken s ≡ None → IsFree same_edge (edges_of s)
edges_free s h = IsFree-from_None same_edge (edges_of s) (nothing_made _ (first_clash_in same_edge (edges_of s)) h)
