use Rattle.meta_headers.proofs.FileLemmas.{file_is_one}
use Rattle.meta_headers.proofs.laws.file_law.Goals as goal

pub returns : goal.returns
returns c = file_is_one c.content_law.ensures
