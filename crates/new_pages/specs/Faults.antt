-- What the faults of paths and of URLs are to a command.
use Rattle.std.specs.Prelude.{Result, Ok, Err}
use Rattle.site_types.specs.declared.refusal.Refusal.TheVariants as refusals
use Rattle.path_moves.specs.declared.fault.PathFault.{PathFault}
use Rattle.path_moves.specs.declared.fault.PathFault.TheVariants as paths
use Rattle.slug_urls.specs.declared.fault.UrlFault.{UrlFault}
use Rattle.slug_urls.specs.declared.fault.UrlFault.TheVariants as urls
use Rattle.site_part.specs.declared.fault.Fault.{Fault}
use Rattle.site_part.specs.declared.fault.Fault.TheVariants.{Refused, Memory}

-- the fault of a command whose page gets no path
abbrev pub of_path : PathFault → Fault
of_path paths.IntoItself = Refused refusals.IntoItself
of_path paths.StepsFull = Refused refusals.StepsFull
of_path paths.TooDeep = Refused refusals.TooDeep
of_path paths.Memory = Memory

-- the fault of a command whose page gets no URL
abbrev pub of_url : UrlFault → Fault
of_url (urls.Taken other) = Refused (refusals.SlugTaken other)
of_url urls.TooLong = Refused refusals.UrlTooLong
of_url urls.Memory = Memory

-- The first fault of a page in the order of the rules, where there is one of its URLs: a slug that is
-- taken, then the faults of the path, then a URL that is too long.
abbrev pub first_fault_of : {X : Type 0} → Result X PathFault → UrlFault → Fault
first_fault_of path (urls.Taken other) = Refused (refusals.SlugTaken other)
first_fault_of path urls.Memory = Memory
first_fault_of (Ok given) urls.TooLong = Refused refusals.UrlTooLong
first_fault_of (Err fault) urls.TooLong = of_path fault

-- the path and the URLs of a page, or its first fault
abbrev pub both_of : {X Y : Type 0} → Result X PathFault → Result Y UrlFault → Result (X × Y) Fault
both_of path (Err fault) = Err (first_fault_of path fault)
both_of (Ok given) (Ok pairs) = Ok (given, pairs)
both_of (Err fault) (Ok pairs) = Err (of_path fault)
