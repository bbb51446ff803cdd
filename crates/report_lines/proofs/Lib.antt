mod WordLaws
mod FieldLaws
mod FieldFits
mod WordTables
mod LineLaws
mod FeedLaws
mod ReadLaws
