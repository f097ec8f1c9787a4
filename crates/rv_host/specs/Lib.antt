pub mod LiveFrames
pub mod HostStates
pub mod HostEvents
