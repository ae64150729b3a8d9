mod Picked
mod Paired
mod Kept
mod Agreeing
