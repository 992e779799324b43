use Rattle.checking.proofs.Loaded.{loaded_is_held}
use Rattle.checking.proofs.loaded_is_held.Goals as goal

pub returns : goal.returns
returns c = loaded_is_held
