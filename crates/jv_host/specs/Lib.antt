pub mod Counts
pub mod DirHostState
pub mod Files
pub mod HostAnswer
pub mod MemHostState
pub mod MemSinkState
pub mod SinkAnswer
pub mod StdSinkState
