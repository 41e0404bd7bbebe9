pub mod BelowLaws
pub mod BitLaws
pub mod SetLaws
pub mod MemberLaws
pub mod SetCodeLaws
pub mod FillLaws
pub mod FirstLaws
