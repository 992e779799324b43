-- The number of each cause, and of each layer.
use Rattle.std.specs.Prelude.{ℕ}
use Rattle.refusal.specs.declared.Cause.{Cause}
use Rattle.refusal.specs.declared.Cause.TheVariants.{FileEnds, BadNumber, BadEdition, BadSize, OverLimit, VertexOutside, BadCornerCount, NoSuchVertex, BadNumeral, BadWording, BytesLeft, TableTooShort, LoopSum, SamePoint, VertexTwice, EdgeTwice, NoReverse, VertexUnused, EdgesTouch, LoopTurned, Stuck, StoreFull, VerticesLeft, NoneLeft, UnfitTip, OffSheet, OutOfRange, NotThisStage}
use Rattle.refusal.specs.declared.Layer.{Layer}
use Rattle.refusal.specs.declared.Layer.TheVariants.{File, Check, Build, Place, Store}
use Rattle.refusal.specs.declared.Refusal.{Refusal}

abbrev pub number : Cause → ℕ
number FileEnds = 1
number BadNumber = 2
number BadEdition = 3
number BadSize = 4
number OverLimit = 5
number VertexOutside = 6
number BadCornerCount = 7
number NoSuchVertex = 8
number BadNumeral = 9
number BadWording = 10
number BytesLeft = 11
number TableTooShort = 12
number LoopSum = 13
number SamePoint = 14
number VertexTwice = 15
number EdgeTwice = 16
number NoReverse = 17
number VertexUnused = 18
number EdgesTouch = 19
number LoopTurned = 20
number Stuck = 21
number StoreFull = 22
number VerticesLeft = 23
number NoneLeft = 24
number UnfitTip = 25
number OffSheet = 26
number OutOfRange = 27
number NotThisStage = 28

abbrev pub layer : Layer → ℕ
layer File = 1
layer Check = 2
layer Build = 3
layer Place = 4
layer Store = 5

abbrev pub refused : Cause → Layer → ℕ → Refusal
refused c l p = record { cause = c; layer = l; place = p }
