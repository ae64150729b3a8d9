mod Folder
mod Reading
mod Sources
