mod Among
mod Below
mod Finding
mod Leasts
mod Passing
