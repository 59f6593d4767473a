-- What was checked is sound.
use Rattle.preflight_cert.proofs.ClearedSound.{cleared_is_sound}
use Rattle.preflight_cert.proofs.laws.cleared_law.Goals as goal

pub returns : goal.returns
returns c = cleared_is_sound c.content_law.ensures c.file_law.ensures c.opening_law.ensures c.size_law.ensures
