mod Answered
mod Numbers
mod Outcomes
mod Walks
