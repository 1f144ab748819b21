mod AnswerTexts
mod Endings
mod Faces
mod LineRuns
mod OneAnswer
mod Overs
mod QueryStops
mod Taking
