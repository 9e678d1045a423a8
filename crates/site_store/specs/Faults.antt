-- Faults of a store, by those of the crates below it.
use Rattle.site_part.specs.declared.fault.Fault.{Fault}
use Rattle.site_part.specs.declared.fault.Fault.TheVariants as plans
use Rattle.journal.specs.declared.fault.ScanFault.{ScanFault}
use Rattle.journal.specs.declared.fault.ScanFault.TheVariants as scans
use Rattle.site_store.specs.declared.fault.CallFault.{CallFault}
use Rattle.site_store.specs.declared.fault.CallFault.TheVariants.{Refused, Memory}
use Rattle.site_store.specs.declared.fault.OpenFault.{OpenFault}
use Rattle.site_store.specs.declared.fault.OpenFault.TheVariants as opens

-- why a command that has no plan is not accepted
abbrev pub fault_told : Fault → CallFault
fault_told (plans.Refused refusal) = Refused refusal
fault_told plans.Memory = Memory

-- why a store is not opened whose journal, in file 3, could not be read
abbrev pub open_fault : ScanFault → OpenFault
open_fault (scans.Bad offset) = opens.BadStore 3 offset
open_fault scans.Failed = opens.Disk
open_fault scans.Memory = opens.Memory
