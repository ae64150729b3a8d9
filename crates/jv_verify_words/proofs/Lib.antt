mod ReadLocals
mod Stepping
