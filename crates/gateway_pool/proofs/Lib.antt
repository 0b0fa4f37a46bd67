mod Choices
mod Kept
mod Limits
mod Lists
mod Requests
mod Origins
