mod Common
mod Anew
mod Imports
mod Opened
mod Lines
mod Writers
mod Lasting
