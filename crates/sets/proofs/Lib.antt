mod LowestLaws
mod JoinLaws
