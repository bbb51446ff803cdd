mod Steps
mod LinesLaws
