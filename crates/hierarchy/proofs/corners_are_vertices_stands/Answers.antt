use Rattle.hierarchy.proofs.Theorems.{corners_are_vertices}
use Rattle.hierarchy.proofs.corners_are_vertices_stands.Goals as goal

pub returns : goal.returns
returns c = corners_are_vertices
