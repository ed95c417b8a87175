pub mod Children
pub mod MemSpawner
pub mod RealSpawner
