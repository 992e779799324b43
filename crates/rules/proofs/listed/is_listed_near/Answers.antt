use Rattle.rules.proofs.Searches.{listed_ahead}
use Rattle.rules.proofs.listed.is_listed_near.Goals as goal

-- not behind, so it is ahead or nowhere
pub returns-else-is_behind : goal.returns-else-is_behind
returns-else-is_behind c = listed_ahead c.args.edges.now c.args.i c.args.edge c.is_behind.result c.is_ahead.result c.if-is_behind.false c.is_behind.ensures c.is_ahead.ensures
