-- What contracts cite of the numbers of refusals.
pub mod Numbers
