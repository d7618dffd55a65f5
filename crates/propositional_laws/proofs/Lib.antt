mod Forms
mod Values
mod Steps
mod Ranks
mod Turns
mod Saturates
mod Refutes
mod Numbers
