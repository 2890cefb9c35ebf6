pub mod Numbers
pub mod Firsts
pub mod Storing
pub mod Defining
pub mod Highest
pub mod Taking
pub mod Template
