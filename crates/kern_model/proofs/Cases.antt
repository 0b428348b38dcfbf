-- Small cases, computed.
pub mod Small
pub mod Services
