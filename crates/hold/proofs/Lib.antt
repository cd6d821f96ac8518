-- Laws that both holds share.
pub mod Cases
pub mod Decoding
pub mod OneResult
