-- What remains in a source over a file of some format.
use Rattle.draw_ops.specs.Content.{Content}
use Rattle.meta_headers.specs.declared.source.Source.{Source}
use Rattle.meta_headers.specs.declared.source.Source.TheVariants.{Wmf, Emf}

-- the remaining content, by the source's format
abbrev pub source_content : Source → Content
source_content (Wmf ops) = ops
source_content (Emf ops) = ops
