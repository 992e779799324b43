use Rattle.sheet.proofs.Legals.{contents_known}
use Rattle.sheet.proofs.loading.taken_is_legal.Goals as goal

pub returns : goal.returns
returns c = contents_known
