pub mod Datagrams
pub mod OwnDatagrams
pub mod Senders
