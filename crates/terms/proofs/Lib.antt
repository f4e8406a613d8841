pub mod ClauseLaws
pub mod MaskLaws
pub mod MemberLaws
pub mod RefusalLaws
pub mod WordLaws
