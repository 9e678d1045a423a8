-- The error of calls that fail only when out of memory.
use Rattle.site_ids.specs.declared.no_memory.NoMemory.{NoMemory}

-- the one value of that error
abbrev pub no_memory : NoMemory
no_memory = record {}
