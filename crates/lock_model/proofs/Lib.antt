-- the place of a seat in the list, and what a change of its role does to it
mod Placing
