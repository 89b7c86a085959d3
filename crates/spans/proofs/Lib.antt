mod Inputs
mod Lists
