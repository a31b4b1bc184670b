mod Names
mod Rows
