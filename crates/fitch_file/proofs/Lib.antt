mod Resuming
mod Digits
mod Naming
mod Citing
mod Boxing
mod Claiming
mod Stating
mod Lengths
mod Lining
mod Forming
mod Going
mod Heading
pub mod PrintingInk
pub mod PrintingSentences
mod PrintingParts
mod PrintingSteps
mod PrintingLines
mod Wording
mod Declaring
mod Allowing
mod Tasking
pub mod Once
pub mod Sentences
pub mod TaskOnce
