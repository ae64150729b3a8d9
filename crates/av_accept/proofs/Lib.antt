mod Calls
mod Telling
