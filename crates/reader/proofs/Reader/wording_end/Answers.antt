-- Whichever way the reading ends, it has seen the bytes before that place.
use Rattle.std.proofs.Common.{arith, rules}
use Rattle.std.proofs.lemmas.List.{places}
use Rattle.reader.proofs.Letters.{wording_bad, wording_short, wording_whole}
use Rattle.reader.proofs.Reader.wording_end.Goals as goal

pub returns-in-Some-clause-value : goal.returns-in-Some-clause-value
returns-in-Some-clause-value c =
    let w = wording_bad c.args.self.now.file.now c.args.length c.args.self.now.at c.min.result (omega arith) (grind (arith, places)) c.in-Some.i (search rules) in
    cc

pub returns-then-text-from-clause-value : goal.returns-then-text-from-clause-value
returns-then-text-from-clause-value c =
    let w = wording_short c.args.self.now.file.now c.args.length c.args.self.now.at c.min.result (omega arith) (grind (arith, places)) (search rules) (omega arith) (grind (arith, places)) in
    cc

pub returns-clause-value : goal.returns-clause-value
returns-clause-value c =
    let w = wording_whole c.args.self.now.file.now c.args.length c.args.self.now.at c.min.result (omega arith) (grind (arith, places)) (search rules) (omega arith) in
    cc
