mod Wholes
pub mod Inside
pub mod WordKinds
mod Spelling
mod Complete
mod Built
mod Sound
mod Finishing
mod Raising
mod Endings
mod Stopping
mod Lexing
mod TokensOnce
mod Lexed
mod MarkLaws
mod Counting
pub mod Reading
mod Steps
pub mod PrintLaws
mod Written
mod Respelled
pub mod ReadBack
mod Fitness
pub mod Refused
mod BadOnce
pub mod OneFault
mod Answering
mod SomeAnswer
pub mod Wellformed
mod Taken
mod Whole
