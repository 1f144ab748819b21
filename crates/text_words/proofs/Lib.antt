mod Digits
mod WordLists
