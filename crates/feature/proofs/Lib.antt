pub mod RefusalLaws
pub mod CarrierLaws
