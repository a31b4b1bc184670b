mod Headers
mod Heard
