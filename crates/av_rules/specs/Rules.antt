-- The sixteen rules of the analysis: each says which fact follows from which one or two premises.
pub mod Allocate
pub mod Argument
pub mod Cast
pub mod Catch
pub mod Constant
pub mod Dispatch
pub mod Element
pub mod Entry
pub mod Field
pub mod Initialise
pub mod MachineRaise
pub mod Move
pub mod Raise
pub mod Reach
pub mod Return
pub mod Static
