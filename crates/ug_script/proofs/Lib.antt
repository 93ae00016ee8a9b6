pub mod Answers
mod DistinctFew
mod FewDevices
pub mod HintsRead
pub mod KeptRules
pub mod Folders
pub mod Phases
pub mod Halts
pub mod EventSteps
pub mod LastStages
pub mod Takings
pub mod Starts
pub mod Restarts
pub mod OrdersPlayed
pub mod Lawful
pub mod Stopped
pub mod OnEntries
pub mod Spent
pub mod Numbers
pub mod Setups
pub mod Skimmed
pub mod FileTexts
mod KeptRuns
mod KeptEnds
pub mod Journals
pub mod Carrying
pub mod Filed
pub mod FolderKept
mod FirstStop
mod WholeLines
pub mod Counted
pub mod EntryCounts
mod Summed
pub mod Turns
pub mod Schedules
pub mod MoveLines
pub mod EventCalls
pub mod Births
pub mod Against
pub mod Roomless
mod PassPlays
mod PassWalk
mod PassBehind
mod PassSure
mod PassRuns
mod BusSound
mod PassFaults
mod FewStandings
mod PassFits
pub mod Plays
pub mod Wants
pub mod Sweeps
pub mod Still
