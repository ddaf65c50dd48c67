pub mod Deciding
pub mod Outcomes
pub mod MemberRuns
pub mod Crews
pub mod DrawnTurns
pub mod AloneBounds
pub mod AloneTurns
pub mod OutcomeLogs
