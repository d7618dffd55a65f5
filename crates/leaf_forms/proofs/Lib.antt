mod Forms
mod Closed
mod Steps
mod Chapters
