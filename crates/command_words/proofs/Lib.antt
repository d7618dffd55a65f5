mod Asking
mod Simple
mod WordLaws
