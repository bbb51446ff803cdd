mod CopyLaws
mod PlanLaws
mod RowLaws
mod StraightLaws
