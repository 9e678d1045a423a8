-- What an attempt to read says of what is there to be read.
use Rattle.std.specs.Prelude.{◌≡◌, Option, Some, None, Result, Ok, Err}
use Rattle.block_content.specs.declared.fault.ContentFault.{ContentFault}
use Rattle.block_content.specs.declared.fault.ContentFault.TheVariants.{Bad, Memory}

-- what was read is what is there, and Bad says that nothing is; running out of memory says nothing
abbrev pub Reads : {A : Type 0} → Result A ContentFault → Option A → Type 0
Reads (Ok read) there = there ≡ Some read
Reads (Err Bad) there = there ≡ None
Reads (Err Memory) there = Unit {0}
