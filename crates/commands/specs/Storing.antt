-- Why a certificate isn't stored.
use Rattle.std.specs.Prelude.{ℕ, List, codes}
use Rattle.commands.specs.declared.storing.StoreFault.{StoreFault}
use Rattle.commands.specs.declared.storing.StoreFault.TheVariants.{CannotWrite, OutOfMemory, Taken}

-- the reason
abbrev pub store_text : StoreFault → List ℕ
store_text Taken = codes "the certificate's name is taken"
store_text CannotWrite = codes "cannot write"
store_text OutOfMemory = codes "OutOfMemory"
