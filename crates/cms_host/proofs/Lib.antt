mod Printed
mod Found
mod HeldBytes
mod Exits
mod Failures
