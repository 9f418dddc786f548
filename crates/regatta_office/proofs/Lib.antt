pub mod Asking
mod Checking
pub mod EndFacts
pub mod Entering
pub mod Gathering
pub mod HeardFacts
pub mod KeptStarting
mod Listing
pub mod Previewing
mod Printing
pub mod Refused
pub mod Results
pub mod Saying
mod Seats
pub mod Streams
pub mod Whole
