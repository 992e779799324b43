use Rattle.std.proofs.Common.{rules}
use Rattle.bottom.proofs.Numbering.{numbered}
use Rattle.bottom.proofs.cutting.number.Goals as goal

pub returns : goal.returns
returns c = numbered _ _ c.append_range.new.self.items.now _ _ _ c.append_range.ensures.kept c.over-list.ensures.kept c.requires (search rules)
