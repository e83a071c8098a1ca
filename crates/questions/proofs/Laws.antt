-- Laws of answers, of the questions on sizes and on a pair, and of those on the runs of a form.
pub mod Answers
pub mod Pairs
pub mod Runs
