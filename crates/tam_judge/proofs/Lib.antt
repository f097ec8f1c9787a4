mod OrderSteps
mod CheckedRuns
mod MayFollow
mod AnyOf
mod CheckedClasses
mod CheckedDeliveries
mod CheckedJournals
mod MachineStates
