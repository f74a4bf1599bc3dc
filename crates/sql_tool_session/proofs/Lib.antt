pub mod Answered
mod Auditing
mod Asking
mod Calls
mod TooDeep
