mod Beginnings
mod Differing
mod Fronts
mod Starting
mod ShownCalls
mod ToldKinds
