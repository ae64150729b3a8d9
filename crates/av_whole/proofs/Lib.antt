mod Picked
mod Built
mod Inside
