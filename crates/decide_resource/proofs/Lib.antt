mod AllowLemmas
pub mod AnswerLemmas
mod ChosenLemmas
mod ConditionLemmas
mod DeniedLemmas
pub mod ExistenceLemmas
mod GuardLemmas
mod HeadLemmas
pub mod ItemLemmas
mod MemberLemmas
mod OneReasonLemmas
mod OtherFieldLemmas
mod OwnFieldLemmas
pub mod PickLemmas
mod PlanLemmas
mod ReasonLemmas
mod SamePlanLemmas
mod SelectionLemmas
mod SharedLemmas
mod VaryLemmas
