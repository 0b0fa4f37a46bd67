mod Examples
mod Lists
mod Steps
mod OwnWrites
mod Updates
