pub mod Kinds
pub mod Lending
pub mod PortSettings
pub mod Ports
pub mod SenderSettings
pub mod Senders
