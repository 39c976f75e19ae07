-- The definitions of `pim_report`.
pub mod Said
pub mod Malformed
pub mod PacketLine
pub mod EchoLine
pub mod RefreshLine
pub mod RecordLine
pub mod DemandText
pub mod MessageText
pub mod SameLine
pub mod StateText
