mod Trace
mod Worked
mod WorkedCantor
mod WorkedCases
mod WorkedSets
pub mod Positions
pub mod Closings
pub mod Watching
pub mod Falling
pub mod Needing
pub mod Uses
pub mod Treeing
mod Rooms
pub mod Lefts
pub mod Standing
pub mod Telling
mod Used
