mod Operations
mod Marked
