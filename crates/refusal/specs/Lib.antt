pub mod Numbers
pub mod Printed
