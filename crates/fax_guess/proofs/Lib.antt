mod BlackRuns
mod FoundForms
mod Readings
mod ZeroBytes
