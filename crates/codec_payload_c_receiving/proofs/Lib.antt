pub mod NameLemmas
pub mod RangeLemmas
pub mod RefusalLemmas
pub mod SessionLemmas
pub mod SettingsFaultLemmas
