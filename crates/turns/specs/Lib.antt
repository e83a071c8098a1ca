-- What the turns say: a set of outputs as one word, what an input asks for, what a turn answers, and what it costs and notes.
pub mod Masks
pub mod Requests
pub mod Charges
