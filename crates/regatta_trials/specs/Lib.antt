pub mod Past
pub mod Memory
pub mod MemoryFiles
