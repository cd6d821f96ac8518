-- What both holds share.
pub mod Hold
