-- What is printed of a refusal.
use Rattle.std.specs.Prelude.{ℕ, List, ◌++◌, codes, decimal}
use Rattle.refusal.specs.declared.Cause.{Cause}
use Rattle.refusal.specs.declared.Cause.TheVariants.{FileEnds, BadNumber, BadEdition, BadSize, OverLimit, VertexOutside, BadCornerCount, NoSuchVertex, BadNumeral, BadWording, BytesLeft, TableTooShort, LoopSum, SamePoint, VertexTwice, EdgeTwice, NoReverse, VertexUnused, EdgesTouch, LoopTurned, Stuck, StoreFull, VerticesLeft, NoneLeft, UnfitTip, OffSheet, OutOfRange, NotThisStage}
use Rattle.refusal.specs.declared.Layer.{Layer}
use Rattle.refusal.specs.declared.Layer.TheVariants.{File, Check, Build, Place, Store}
use Rattle.refusal.specs.declared.Refusal.{Refusal}
use Rattle.refusal.specs.Numbers.{layer, number}

-- what to mend
abbrev pub sentence : Cause → List ℕ
sentence FileEnds = codes "the file stops too early; send it whole"
sentence BadNumber = codes "a number is not in its shortest form of one to three groups; write it anew"
sentence BadEdition = codes "this edition of the file is not known; write edition 1"
sentence BadSize = codes "width and height must each be 2 to 8,191"
sentence OverLimit = codes "there are more of these than a sheet may have; split the sheet"
sentence VertexOutside = codes "an inner vertex must lie strictly inside the sheet; move it"
sentence BadCornerCount = codes "a loop has 3 corners at least, and no more than the sheet has vertices"
sentence NoSuchVertex = codes "a corner names a vertex that the sheet does not have; correct its number"
sentence BadNumeral = codes "a numeral is 0 to 255 at a loop, 1 to 255 at a label, and labelled once"
sentence BadWording = codes "a wording has 1 to 63 characters, each a printable ASCII one; shorten or retype it"
sentence BytesLeft = codes "the file goes on after its last label; cut the rest off"
sentence TableTooShort = codes "a table is too short; lend a longer one"
sentence LoopSum = codes "the loops leave a gap or lie over each other; count their corners again"
sentence SamePoint = codes "two vertices are the same point; merge them"
sentence VertexTwice = codes "a loop names a vertex twice; split the loop there"
sentence EdgeTwice = codes "two loops lie on the same side of an edge; turn or remove one"
sentence NoReverse = codes "no loop lies on the other side of an edge; add the missing one"
sentence VertexUnused = codes "an inner vertex is a corner of no loop; remove it"
sentence EdgesTouch = codes "two edges touch or cross; put a vertex where they meet"
sentence LoopTurned = codes "a loop goes round clockwise, or encloses nothing; list its corners counterclockwise"
sentence Stuck = codes "the loop cannot be cut, or the sheet layered, any further; redraw it"
sentence StoreFull = codes "the store is too small; lend one with room for so many nodes"
sentence VerticesLeft = codes "inner vertices are left; run more rounds before sealing"
sentence NoneLeft = codes "no inner vertex is left; seal the sheet"
sentence UnfitTip = codes "the tip's numbers are outside what the kernel takes"
sentence OffSheet = codes "the tip lies off the sheet; move it"
sentence OutOfRange = codes "a table or a store was altered; load the sheet again"
sentence NotThisStage = codes "the sheet is not at the stage for this; take the turns in order"

abbrev pub layer_name : Layer → List ℕ
layer_name File = codes "file"
layer_name Check = codes "check"
layer_name Build = codes "build"
layer_name Place = codes "place"
layer_name Store = codes "store"

-- the number, the layer with its name, the place, and what to mend
abbrev pub words : Refusal → List ℕ
words e =
    codes "refusal " ++ decimal (number e.cause) ++ codes ", layer " ++ decimal (layer e.layer) ++ codes " (" ++ layer_name e.layer
    ++ codes "), place " ++ decimal e.place ++ codes ": " ++ sentence e.cause
