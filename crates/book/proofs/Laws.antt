-- Laws of places, sums, pairs in reach, amounts, what would follow a booking, the book's rule, calls, and what the book holds for a pair.
pub mod Places
pub mod Sums
pub mod Reach
pub mod Amounts
pub mod Afterwards
pub mod Sharing
pub mod Calls
