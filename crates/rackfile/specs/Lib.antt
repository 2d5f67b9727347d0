pub mod Faults
pub mod Reading
pub mod Records
pub mod Files
pub mod Taking
pub mod Format
pub mod Exact
pub mod FaultLaws
