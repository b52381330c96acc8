pub mod MemoryRows
pub mod BlockRows
