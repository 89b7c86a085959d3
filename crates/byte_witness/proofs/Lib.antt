mod Hits
mod Answers
